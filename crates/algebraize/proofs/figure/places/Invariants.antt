use Rattle.std.proofs.Common.{◌≡◌, ◌++◌, length}
use Rattle.poly_model.specs.declared.limits.TheConstants.{MOST_VARIABLES}
use Rattle.algebraize.specs.Equations.{places_of}
use Rattle.algebraize.specs.Layout.{AreBelow}
use Rattle.algebraize.proofs.figure.places.Given as goal

abbrev pub invariant-loop-place : goal.invariant-loop-place
invariant-loop-place l = record {
  value : l.places.items ++ places_of l.rest ≡ places_of l.fn.coordinates;
  below : AreBelow MOST_VARIABLES l.rest;
}

abbrev pub decreases-loop-place : goal.decreases-loop-place
decreases-loop-place l = length l.rest

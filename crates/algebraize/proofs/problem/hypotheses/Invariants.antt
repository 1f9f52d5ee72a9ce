use Rattle.std.proofs.Common.{◌≡◌, ◌++◌, length, map}
use Rattle.poly_model.specs.Content.{primitive_part}
use Rattle.algebraize.specs.Equations.{polynomials}
use Rattle.algebraize.specs.Figure.{conditions_from}
use Rattle.algebraize.specs.Formed.{HasDefaults, curves_of}
use Rattle.algebraize.proofs.problem.hypotheses.Given as goal

abbrev pub invariant-loop-act : goal.invariant-loop-act
invariant-loop-act l = record {
  places : l.figure.places.items ≡ l.fn.figure.places.items;
  defaults : HasDefaults l.figure;
  value : l.equations.items ++ map primitive_part (conditions_from polynomials l.fn.figure.places.items (curves_of l.figure) l.rest)
      ≡ map primitive_part (conditions_from polynomials l.fn.figure.places.items (curves_of l.fn.figure) l.fn.acts);
}

abbrev pub decreases-loop-act : goal.decreases-loop-act
decreases-loop-act l = length l.rest

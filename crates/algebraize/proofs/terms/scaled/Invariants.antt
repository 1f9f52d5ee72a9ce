use Rattle.std.proofs.Common.{◌≡◌, ◌≤◌, ◌*◌, ◌++◌, length}
use Rattle.std.specs.Prelude.{unsigned_abs}
use Rattle.poly_model.specs.Polynomial.{poly_scaled}
use Rattle.poly_model.specs.Standard.{polynomial_of}
use Rattle.poly_model.specs.declared.limits.TheConstants.{MOST_SIZE}
use Rattle.algebraize.specs.Small.{weight}
use Rattle.algebraize.proofs.terms.scaled.Given as goal

abbrev pub invariant-loop-term : goal.invariant-loop-term
invariant-loop-term l = record {
  value : polynomial_of l.multiples.items ++ poly_scaled l.factor (polynomial_of l.rest) ≡ poly_scaled l.factor (polynomial_of l.fn.p);
  bound : unsigned_abs l.factor * weight (polynomial_of l.rest) ≤ MOST_SIZE;
}

abbrev pub decreases-loop-term : goal.decreases-loop-term
decreases-loop-term l = length l.rest

use Rattle.std.proofs.Common.{◌≡◌, ◌≤◌, ◌++◌, length}
use Rattle.poly_model.specs.Content.{entries_divided}
use Rattle.poly_model.specs.Standard.{polynomial_of}
use Rattle.poly_model.specs.declared.limits.TheConstants.{MOST_SIZE}
use Rattle.algebraize.specs.Small.{weight}
use Rattle.algebraize.proofs.primitive.all_divided.Given as goal

abbrev pub invariant-loop-term : goal.invariant-loop-term
invariant-loop-term l = record {
  value : polynomial_of l.quotients.items ++ entries_divided l.turned l.divisor (polynomial_of l.rest) ≡ entries_divided l.turned l.divisor (polynomial_of l.fn.terms);
  bound : weight (polynomial_of l.rest) ≤ MOST_SIZE;
}

abbrev pub decreases-loop-term : goal.decreases-loop-term
decreases-loop-term l = length l.rest

use Rattle.std.proofs.Common.{◌≡◌, ◌≤◌, ◌+◌, length}
use Rattle.poly_model.specs.Polynomial.{poly_sum}
use Rattle.poly_model.specs.Standard.{polynomial_of}
use Rattle.poly_model.specs.declared.limits.TheConstants.{MOST_SIZE}
use Rattle.algebraize.specs.Small.{weight}
use Rattle.algebraize.proofs.terms.sum_onto.Given as goal

abbrev pub invariant-loop-last : goal.invariant-loop-last
invariant-loop-last l = record {
  value : poly_sum (polynomial_of l.rest) (polynomial_of l.q.items) ≡ poly_sum (polynomial_of l.fn.p) (polynomial_of l.fn.q.items);
  bound : weight (polynomial_of l.rest) + weight (polynomial_of l.q.items) ≤ MOST_SIZE;
}

abbrev pub decreases-loop-last : goal.decreases-loop-last
decreases-loop-last l = length l.rest

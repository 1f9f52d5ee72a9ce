use Rattle.std.proofs.Common.{◌≡◌, ◌≤◌, ◌+◌, ◌*◌, length, true}
use Rattle.poly_model.specs.Polynomial.{poly_product}
use Rattle.poly_model.specs.Standard.{polynomial_of}
use Rattle.poly_model.specs.declared.limits.TheConstants.{MOST_DEGREE, MOST_SIZE}
use Rattle.algebraize.specs.Small.{weight, is_low}
use Rattle.algebraize.proofs.Changes.{multiples}
use Rattle.algebraize.proofs.terms.product.Given as goal

abbrev pub invariant-loop-last : goal.invariant-loop-last
invariant-loop-last l = record {
  value : multiples (polynomial_of l.rest) (polynomial_of l.q) (polynomial_of l.product.items) ≡ poly_product (polynomial_of l.fn.p) (polynomial_of l.q);
  bound : weight (polynomial_of l.rest) * weight (polynomial_of l.q) + weight (polynomial_of l.product.items) ≤ MOST_SIZE;
  low : is_low MOST_DEGREE (polynomial_of l.rest) ≡ true;
}

abbrev pub decreases-loop-last : goal.decreases-loop-last
decreases-loop-last l = length l.rest

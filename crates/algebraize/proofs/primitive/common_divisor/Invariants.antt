use Rattle.std.proofs.Common.{◌≡◌, length}
use Rattle.poly_model.specs.Content.{coefficients_gcd}
use Rattle.poly_model.specs.Standard.{polynomial_of}
use Rattle.algebraize.proofs.Changes.{gcd_with}
use Rattle.algebraize.proofs.primitive.common_divisor.Given as goal

abbrev pub invariant-loop-last : goal.invariant-loop-last
invariant-loop-last l = gcd_with (polynomial_of l.rest) l.divisor ≡ coefficients_gcd (polynomial_of l.fn.terms)

abbrev pub decreases-loop-last : goal.decreases-loop-last
decreases-loop-last l = length l.rest

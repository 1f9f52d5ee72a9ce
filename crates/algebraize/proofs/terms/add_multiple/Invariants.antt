use Rattle.std.proofs.Common.{◌≡◌, ◌≤◌, ◌+◌, ◌*◌, length, true}
use Rattle.std.specs.Prelude.{unsigned_abs}
use Rattle.poly_model.specs.Polynomial.{add_multiple}
use Rattle.poly_model.specs.Standard.{polynomial_of}
use Rattle.poly_model.specs.declared.limits.TheConstants.{MOST_DEGREE, MOST_SIZE}
use Rattle.algebraize.specs.Small.{weight, is_low}
use Rattle.algebraize.proofs.terms.add_multiple.Given as goal

abbrev pub invariant-loop-last : goal.invariant-loop-last
invariant-loop-last l = record {
  value : add_multiple l.term.exps l.term.coef (polynomial_of l.rest) (polynomial_of l.sum.items) ≡ add_multiple l.term.exps l.term.coef (polynomial_of l.fn.q) (polynomial_of l.fn.sum.items);
  bound : unsigned_abs l.term.coef * weight (polynomial_of l.rest) + weight (polynomial_of l.sum.items) ≤ MOST_SIZE;
  low : is_low MOST_DEGREE (polynomial_of l.rest) ≡ true;
}

abbrev pub decreases-loop-last : goal.decreases-loop-last
decreases-loop-last l = length l.rest

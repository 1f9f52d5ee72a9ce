use Rattle.poly_model.specs.Polynomial.{poly_sum, poly_difference}
use Rattle.poly_model.specs.declared.limits.TheConstants.{MOST_VARIABLES}
use Rattle.poly_model.proofs.Standing.{standard-descending}
use Rattle.poly_model.proofs.Rows.{within-is, bounded_product-is}
use Rattle.poly_model.proofs.Reductions.{bounded_reduction-is}
use Rattle.poly_model.proofs.Standards.{bounded_shift-is}
use Rattle.poly_model.proofs.laws.bounded_results_are_the_usual_ones.Goals as goal

pub returns : goal.returns
returns c = record {
  sum = λ p q r e. within-is (poly_sum p q) r e;
  difference = λ p q r e. within-is (poly_difference p q) r e;
  product = λ p q r h k e. bounded_product-is MOST_VARIABLES p q r (standard-descending p h) (standard-descending q k) e;
  shift = λ i k p r e. (bounded_shift-is i k p r e).1;
  reduction = λ g f r h k e. bounded_reduction-is MOST_VARIABLES g f r (standard-descending g h) (standard-descending f k) e;
}

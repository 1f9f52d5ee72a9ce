use Rattle.poly_model.proofs.Within.{within-of, bounded_sum-standard, bounded_product-standard}
use Rattle.poly_model.proofs.Standards.{bounded_difference-standard, bounded_shift-standard, bounded_reduction-standard}
use Rattle.poly_model.proofs.laws.bounded_results_are_within_the_limits.Goals as goal

pub returns : goal.returns
returns c = record {
  sum = bounded_sum-standard;
  difference = bounded_difference-standard;
  product = bounded_product-standard;
  shift = bounded_shift-standard;
  reduction = λ g f r h k e. bounded_reduction-standard g f r (within-of g h) (within-of f k) e;
}

use Rattle.poly_model.specs.Integers.{integers_ring}
use Rattle.poly_model.proofs.Sums as sums
use Rattle.poly_model.proofs.Ordered.{at_monomial-additive, coefficient_of-difference}
use Rattle.poly_model.proofs.Contents.{content-times-primitive_part}
use Rattle.poly_model.proofs.laws.operations_are_the_usual_ones.Goals as goal

pub returns : goal.returns
returns c = record {
  sum = λ xs. sums.sum_over-sum integers_ring (at_monomial-additive xs);
  difference = coefficient_of-difference;
  product = λ xs. sums.sum_over-product integers_ring (at_monomial-additive xs);
  content = content-times-primitive_part;
}

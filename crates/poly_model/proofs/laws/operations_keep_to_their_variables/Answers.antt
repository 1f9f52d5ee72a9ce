use Rattle.poly_model.proofs.Classes.{over-by_class}
use Rattle.poly_model.proofs.Over.{over-poly_sum, over-difference, over-product, over-coefficient, over-without, over-primitive_part, over-reduction}
use Rattle.poly_model.proofs.laws.operations_keep_to_their_variables.Goals as goal

pub returns : goal.returns
returns c = record {
  class = over-by_class;
  sum = over-poly_sum;
  difference = over-difference;
  product = over-product;
  coefficient = over-coefficient;
  rest = over-without;
  primitive_part = over-primitive_part;
  reduction = over-reduction;
}

use Rattle.poly_model.proofs.Ordered.{same_coefficients, descending-sum, descending-difference, descending-product, descending-constant, descending-variable, descending-primitive_part}
use Rattle.poly_model.proofs.laws.one_list_for_each_map.Goals as goal

pub returns : goal.returns
returns c = record {
  one = same_coefficients;
  sum = descending-sum;
  difference = descending-difference;
  product = descending-product;
  constant = descending-constant;
  variable = descending-variable;
  primitive_part = descending-primitive_part;
}

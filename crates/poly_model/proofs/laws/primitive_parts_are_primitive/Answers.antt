use Rattle.poly_model.proofs.Primitive.{coefficients-coprime, own-primitive_part}
use Rattle.poly_model.proofs.laws.primitive_parts_are_primitive.Goals as goal

pub returns : goal.returns
returns c = record {
  coprime = coefficients-coprime;
  own = own-primitive_part;
}

use Rattle.std.proofs.Common.{refl}
use Rattle.poly_model.specs.Values as values
use Rattle.poly_model.proofs.laws.evaluation_is_a_homomorphism.Goals as goal

pub returns : goal.returns
returns g c =
    let L = g.D.Domain.laws.ring in
    record {
      sum = values.value_at-sum L;
      difference = values.value_at-difference L;
      product = values.value_at-product L;
      scaled = values.value_at-scaled L;
      zero = λ point. refl;
      constant = values.value_at-constant L;
      variable = values.value_at-variable L;
    }

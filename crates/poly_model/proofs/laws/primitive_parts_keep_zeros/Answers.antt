use Rattle.poly_model.proofs.Contents as contents
use Rattle.poly_model.proofs.laws.primitive_parts_keep_zeros.Goals as goal

pub returns : goal.returns
returns g c =
    let L = g.D.Domain.laws in
    record {
      one = contents.primitive_part-zero L;
      list = λ E N point.
          let equations = contents.AllZero-primitive_parts L E point in
          let conditions = contents.NoneZero-primitive_parts L N point in
          (λ z. (equations.0 z.0, conditions.0 z.1), λ z. (equations.1 z.0, conditions.1 z.1));
    }

use Rattle.std.proofs.lemmas.Bool.{eqb-true}
use Rattle.poly_model.specs.Reduction.{class_of}
use Rattle.poly_model.proofs.Constants as constants
use Rattle.poly_model.proofs.laws.parts_make_the_polynomial.Goals as goal

pub returns : goal.returns
returns g c =
    let L = g.D.Domain.laws in
    record {
      parts = constants.value-parts L;
      shifted = constants.value-shifted L;
      constant = λ p point h. constants.value-constant L p point (eqb-true (class_of p) 0 h);
    }

use Rattle.poly_model.specs.Powers.{low_at, stripped}
use Rattle.poly_model.proofs.Powers as powers
use Rattle.poly_model.proofs.PowersWithin.{stripped-within, over-without_variables}
use Rattle.poly_model.proofs.Powers.{low-reached}
use Rattle.poly_model.proofs.Within.{within-of, standard-of}
use Rattle.poly_model.proofs.laws.powers_are_divided_out.Goals as goal

pub returns : goal.returns
returns g c =
    let L = g.D.Domain.laws in
    record {
      power = λ i p point. powers.value-lowered L i (low_at i p) p point (low-reached i p);
      variables = λ q p point n. powers.without_variables-zeros L q p point n;
      variable = λ p v point h. powers.has_factor-value L p v point h;
      standard = λ i p s. standard-of (stripped i p) (stripped-within i p (within-of p s));
      over = over-without_variables;
    }

use Rattle.poly_model.specs.Reduction.{cross_difference}
use Rattle.poly_model.proofs.Scaled.{parts-times}
use Rattle.poly_model.proofs.Division.{standing}
use Rattle.poly_model.proofs.laws.divisions_are_exact.Goals as goal

pub returns : goal.returns
returns c = record {
  step = λ g f. parts-times (cross_difference g f);
  row = λ n s g f hg hf. (standing n f g s hf hg).identity;
}

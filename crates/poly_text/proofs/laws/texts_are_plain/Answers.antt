use Rattle.poly_text.proofs.Plain.{poly-plain}
use Rattle.poly_text.proofs.laws.texts_are_plain.Goals as goal

pub returns : goal.returns
returns c names p valid standard over = poly-plain names p valid standard over

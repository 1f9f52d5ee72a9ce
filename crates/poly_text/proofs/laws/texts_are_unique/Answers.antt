use Rattle.poly_text.proofs.Unique.{all_fit, few, named, same_text}
use Rattle.poly_text.proofs.laws.texts_are_unique.Goals as goal

pub returns : goal.returns
returns c names p q valid standard_p over_p standard_q over_q e =
    same_text names p q (named names valid) (all_fit names p (few names valid) standard_p over_p) (all_fit names q (few names valid) standard_q over_q) e

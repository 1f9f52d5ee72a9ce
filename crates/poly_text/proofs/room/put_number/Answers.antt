use Rattle.std.proofs.Common.{◌∙◌, refl, arith}
use Rattle.poly_text.proofs.Parts.{digit_more}
use Rattle.poly_text.proofs.room.put_number.Goals as goal

pub returns-clause-text : goal.returns-clause-text
returns-clause-text c = c.put_byte.ensures.text ∙ digit_more _ _ _ c.args.number (omega arith) (omega arith) c.put_short-tens.ensures.text refl

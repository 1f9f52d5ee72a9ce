use Rattle.std.proofs.Common.{◌++◌, ◌/◌, take, sym, ◌∙◌, ap, arith}
use Rattle.std.proofs.lemmas.Fmt.{decimal_digit}
use Rattle.poly_text.proofs.Parts.{digit_more}
use Rattle.poly_text.proofs.room.put_short.Goals as goal

pub returns-then-number-lt10-clause-text : goal.returns-then-number-lt10-clause-text
returns-then-number-lt10-clause-text c = c.put_byte.ensures.text ∙ ap (λ l. take c.args.n c.args.room.now ++ l) (sym (decimal_digit c.args.number c.if-number-lt10.true))

pub returns-clause-text : goal.returns-clause-text
returns-clause-text c =
    c.put_byte-2.ensures.text
    ∙ digit_more _ _ _ c.args.number (omega arith) (omega arith) c.put_byte-tens.ensures.text (sym (decimal_digit (c.args.number / 10) (omega arith)))

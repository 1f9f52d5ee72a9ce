use Rattle.std.proofs.Common.{◌++◌, sym, ◌∙◌, ap, map}
use Rattle.proof_log.specs.Text.{letter_text}
use Rattle.proof_log.proofs.Bytes.{heads}
use Rattle.proof_log.proofs.Spelled.{no_letter}
use Rattle.proof_log.proofs.field.letters_of.Goals as goal

pub returns-in_default-letter_of-clause-refuses : goal.returns-in_default-letter_of-clause-refuses
returns-in_default-letter_of-clause-refuses c path few e =
    no_letter c.loop-letter.path path c.in-Some.letter.now c.in-Some.after.now c.in_default-letter_of.ensures.refuses
    ((heads 46 46 _ _ (sym e ∙ c.loop-letter.invariant.text)).1 ∙ ap (λ t. map letter_text c.loop-letter.path ++ t) c.in-Some.ensures.cases.0)

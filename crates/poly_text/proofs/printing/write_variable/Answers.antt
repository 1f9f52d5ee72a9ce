use Rattle.std.proofs.Common.{◌≡◌, ◌∷◌, [], sym, ◌∙◌, ap}
use Rattle.std.specs.Prelude.{decimal}
use Rattle.desk_io.proofs.Writing.{first_failed, last_writes}
use Rattle.poly_model.specs.Names.{number}
use Rattle.poly_text.proofs.printing.write_variable.Goals as goal

pub returns-in_err-push-clause-bytes : goal.returns-in_err-push-clause-bytes
returns-in_err-push-clause-bytes g c =
    let digits = decimal (number c.args.name) in
    first_failed _ _ _ _ _ (c.letter.result ∷ []) digits _ c.from_residual.ensures.0 c.in_err-push.ensures.bytes (ap (λ b. b ∷ digits) (sym c.letter.ensures))

pub returns-clause-bytes : goal.returns-clause-bytes
returns-clause-bytes g c =
    let digits : c.as_bytes.result.now ≡ decimal (number c.args.name) = c.as_bytes.ensures.value ∙ c.format.ensures.text ∙ ap decimal c.number.ensures in
    last_writes c.push-2.result _ _ _ _ _ _ (c.letter.result ∷ []) c.as_bytes.result.now _ c.in_ok-push.ensures.bytes c.push-2.ensures.bytes
    (λ i. sym c.letter.ensures i ∷ sym digits i)

use Rattle.std.proofs.Common.{◌≡◌, ◌++◌, ◌∙◌, codes, decimal, ap, refl, sym}
use Rattle.desk_io.proofs.Growth.{Grew-then}
use Rattle.desk_io.proofs.Writing.{first_failed, next_failed, last_writes}
use Rattle.command_line.proofs.verdict_lines.write_heading.Goals as goal

pub returns-in_err-push-clause-bytes : goal.returns-in_err-push-clause-bytes
returns-in_err-push-clause-bytes g c =
    first_failed _ _ _ _ _ (codes "prove ") (decimal c.args.k ++ codes ": ") _ c.from_residual.ensures.0 c.in_err-push.ensures.bytes refl

pub returns-in_err-push-2-clause-bytes : goal.returns-in_err-push-2-clause-bytes
returns-in_err-push-2-clause-bytes g c =
    let text : c.as_bytes.result.now ≡ decimal c.args.k = c.as_bytes.ensures.value ∙ c.format.ensures.text in
    next_failed _ _ _ _ _ _ _ (codes "prove ") c.as_bytes.result.now (codes ": ") _ c.from_residual-in_err-push-2.ensures.0
    c.in_ok-push.ensures.bytes c.in_err-push-2.ensures.bytes (ap (λ t. codes "prove " ++ t ++ codes ": ") (sym text))

pub returns-clause-bytes : goal.returns-clause-bytes
returns-clause-bytes g c =
    let text : c.as_bytes.result.now ≡ decimal c.args.k = c.as_bytes.ensures.value ∙ c.format.ensures.text in
    last_writes c.push-3.result _ _ _ _ _ _ (codes "prove " ++ c.as_bytes.result.now) (codes ": ") _
    (Grew-then _ _ _ _ _ _ _ _ c.in_ok-push.ensures.bytes c.in_ok-push-2.ensures.bytes) c.push-3.ensures.bytes
    (ap (λ t. codes "prove " ++ t ++ codes ": ") (sym text))

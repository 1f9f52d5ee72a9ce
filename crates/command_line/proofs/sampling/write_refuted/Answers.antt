use Rattle.std.proofs.Common.{◌≡◌, ◌++◌, ◌∙◌, codes, decimal, ap, refl, sym}
use Rattle.desk_io.proofs.Growth.{Grew-then}
use Rattle.desk_io.proofs.Writing.{first_failed, next_failed, last_writes}
use Rattle.command_line.specs.Samples.{values_text}
use Rattle.command_line.proofs.sampling.write_refuted.Goals as goal

pub returns-in_err-push-clause-bytes : goal.returns-in_err-push-clause-bytes
returns-in_err-push-clause-bytes g c =
    first_failed _ _ _ _ _ (codes "refuted ") (decimal c.args.k ++ values_text c.args.point.now) _ c.from_residual.ensures.0 c.in_err-push.ensures.bytes refl

pub returns-in_err-push-2-clause-bytes : goal.returns-in_err-push-2-clause-bytes
returns-in_err-push-2-clause-bytes g c =
    let text : c.as_bytes.result.now ≡ decimal c.args.k = c.as_bytes.ensures.value ∙ c.format.ensures.text in
    next_failed _ _ _ _ _ _ _ (codes "refuted ") c.as_bytes.result.now (values_text c.args.point.now) _ c.from_residual-in_err-push-2.ensures.0
    c.in_ok-push.ensures.bytes c.in_err-push-2.ensures.bytes (ap (λ t. codes "refuted " ++ t ++ values_text c.args.point.now) (sym text))

pub returns-clause-bytes : goal.returns-clause-bytes
returns-clause-bytes g c =
    let text : c.as_bytes.result.now ≡ decimal c.args.k = c.as_bytes.ensures.value ∙ c.format.ensures.text in
    last_writes c.write_values.result _ _ _ _ _ _ (codes "refuted " ++ c.as_bytes.result.now) (values_text c.args.point.now) _
    (Grew-then _ _ _ _ _ _ _ _ c.in_ok-push.ensures.bytes c.in_ok-push-2.ensures.bytes) c.write_values.ensures.bytes
    (ap (λ t. codes "refuted " ++ t ++ values_text c.args.point.now) (sym text))

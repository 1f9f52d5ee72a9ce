use Rattle.std.proofs.Common.{◌∷◌, [], map, refl}
use Rattle.desk_io.proofs.Writing.{first_failed, last_writes}
use Rattle.proof_log.specs.Text.{letter_text}
use Rattle.proof_log.proofs.line_writing.write_path.Goals as goal

pub returns-in_err-push-clause-bytes : goal.returns-in_err-push-clause-bytes
returns-in_err-push-clause-bytes g c =
    first_failed _ _ _ _ _ (46 ∷ []) (map letter_text c.args.path.now) _ c.from_residual.ensures.0 c.in_err-push.ensures.bytes refl

pub returns-clause-bytes : goal.returns-clause-bytes
returns-clause-bytes g c =
    last_writes c.write_letters.result _ _ _ _ _ _ (46 ∷ []) (map letter_text c.args.path.now) _ c.in_ok-push.ensures.bytes c.write_letters.ensures.bytes refl

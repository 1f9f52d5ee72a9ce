use Rattle.std.proofs.Common.{◌++◌, ◌∷◌, [], refl}
use Rattle.desk_io.proofs.Writing.{first_failed, last_writes}
use Rattle.proof_log.specs.Text.{fields_text, attempt_word, attempt_fields}
use Rattle.proof_log.proofs.line_writing.write_tried.Goals as goal

pub returns-in_err-push-clause-bytes : goal.returns-in_err-push-clause-bytes
returns-in_err-push-clause-bytes g c =
    first_failed _ _ _ _ _ (32 ∷ []) (attempt_word c.args.what ++ fields_text (attempt_fields c.args.what)) _ c.from_residual.ensures.0 c.in_err-push.ensures.bytes refl

pub returns-clause-bytes : goal.returns-clause-bytes
returns-clause-bytes g c =
    last_writes c.write_attempt.result _ _ _ _ _ _ (32 ∷ []) (attempt_word c.args.what ++ fields_text (attempt_fields c.args.what)) _ c.in_ok-push.ensures.bytes c.write_attempt.ensures.bytes refl

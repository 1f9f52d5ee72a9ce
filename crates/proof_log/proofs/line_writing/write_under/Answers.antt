use Rattle.std.proofs.Common.{codes, refl}
use Rattle.desk_io.proofs.Writing.{first_failed, last_writes}
use Rattle.proof_log.specs.Text.{polys_text}
use Rattle.proof_log.proofs.line_writing.write_under.Goals as goal

pub returns-in_err-push-clause-bytes : goal.returns-in_err-push-clause-bytes
returns-in_err-push-clause-bytes g c =
    first_failed _ _ _ _ _ (codes "under") (polys_text c.args.vars.now c.args.conditions.now) _ c.from_residual.ensures.0 c.in_err-push.ensures.bytes refl

pub returns-clause-bytes : goal.returns-clause-bytes
returns-clause-bytes g c =
    last_writes c.write_polys.result _ _ _ _ _ _ (codes "under") (polys_text c.args.vars.now c.args.conditions.now) _ c.in_ok-push.ensures.bytes c.write_polys.ensures.bytes refl

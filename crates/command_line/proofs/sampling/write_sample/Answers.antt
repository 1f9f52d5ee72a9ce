use Rattle.std.proofs.Common.{codes, refl}
use Rattle.desk_io.proofs.Writing.{first_failed, last_writes}
use Rattle.command_line.specs.Samples.{values_text}
use Rattle.command_line.proofs.sampling.write_sample.Goals as goal

pub returns-in_err-push-clause-bytes : goal.returns-in_err-push-clause-bytes
returns-in_err-push-clause-bytes g c =
    first_failed _ _ _ _ _ (codes "sample") (values_text c.args.point.now) _ c.from_residual.ensures.0 c.in_err-push.ensures.bytes refl

pub returns-clause-bytes : goal.returns-clause-bytes
returns-clause-bytes g c =
    last_writes c.write_values.result _ _ _ _ _ _ (codes "sample") (values_text c.args.point.now) _ c.in_ok-push.ensures.bytes c.write_values.ensures.bytes refl

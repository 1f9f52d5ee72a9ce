use Rattle.std.proofs.Common.{◌∙◌, codes, ap, sym}
use Rattle.desk_io.proofs.Writing.{first_failed, last_writes}
use Rattle.command_line.specs.Checking.{assured_text}
use Rattle.command_line.specs.VerdictLines.{verdicts_text}
use Rattle.command_line.proofs.checking.write_assured.Goals as goal

pub returns-in_err-write_verdicts-clause-bytes : goal.returns-in_err-write_verdicts-clause-bytes
returns-in_err-write_verdicts-clause-bytes g c =
    let problems = c.as_slice.result.now in
    let verdicts = c.as_slice-2.result.now in
    first_failed _ _ _ _ _ (verdicts_text problems verdicts) (codes "assured\n") _ c.from_residual.ensures.0 c.in_err-write_verdicts.ensures.bytes
    (ap (λ ps. assured_text ps c.args.checked.now.verdicts) (sym c.as_slice.ensures) ∙ ap (assured_text problems) (sym c.as_slice-2.ensures))

pub returns-clause-bytes : goal.returns-clause-bytes
returns-clause-bytes g c =
    let problems = c.as_slice.result.now in
    let verdicts = c.as_slice-2.result.now in
    last_writes c.push.result _ _ _ _ _ _ (verdicts_text problems verdicts) (codes "assured\n") _ c.in_ok-write_verdicts.ensures.bytes c.push.ensures.bytes
    (ap (λ ps. assured_text ps c.args.checked.now.verdicts) (sym c.as_slice.ensures) ∙ ap (assured_text problems) (sym c.as_slice-2.ensures))

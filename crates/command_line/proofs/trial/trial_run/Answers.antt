use Rattle.std.proofs.Common.{subst}
use Rattle.gcl_reader.specs.Grammar.{Fails}
use Rattle.command_line.specs.Trials.{trial_of}
use Rattle.command_line.proofs.Trials.{never-refused}
use Rattle.command_line.proofs.trial.trial_run.Goals as goal

pub unreachable-requires : goal.unreachable-requires
unreachable-requires g c =
    never-refused c.trial_files_are_accepted.ensures c.args.number c.in-Err-Refused.field-0-0
    (subst (λ f. Fails f (trial_of c.args.number)) c.in-Err-Refused.field-0-is c.in-Err-Refused.ensures)

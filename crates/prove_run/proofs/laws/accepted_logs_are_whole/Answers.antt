use Rattle.prove_run.proofs.Written.{accepted-whole}
use Rattle.prove_run.proofs.laws.accepted_logs_are_whole.Goals as goal

pub returns : goal.returns
returns c = accepted-whole

use Rattle.branch_core.proofs.Once.{taken_in_run}
use Rattle.branch_core.proofs.laws.taken_once.Goals as goal

pub returns : goal.returns
returns g c history run = taken_in_run history run

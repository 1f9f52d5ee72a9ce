use Rattle.branch_core.proofs.Once.{in_one_state}
use Rattle.branch_core.proofs.laws.one_state_alone.Goals as goal

pub returns : goal.returns
returns g c history s run = in_one_state history s run

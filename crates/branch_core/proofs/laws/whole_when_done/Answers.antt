use Rattle.branch_core.proofs.Completed.{completes}
use Rattle.branch_core.proofs.laws.whole_when_done.Goals as goal

pub returns : goal.returns
returns g c t history = completes t history

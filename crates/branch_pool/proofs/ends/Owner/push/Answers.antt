use Rattle.branch_pool.proofs.Keeps.{pushes}
use Rattle.branch_pool.proofs.ends.Owner.push.Goals as goal

pub push_as-requires-clause-pushes : goal.push_as-requires-clause-pushes
push_as-requires-clause-pushes g c = pushes _ _ _

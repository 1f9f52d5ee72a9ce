use Rattle.branch_pool.proofs.Keeps.{takes}
use Rattle.branch_pool.proofs.ends.Door.steal.Goals as goal

pub steal_as-requires-clause-takes : goal.steal_as-requires-clause-takes
steal_as-requires-clause-takes g c = takes _ _

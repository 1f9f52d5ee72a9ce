use Rattle.branch_pool.proofs.Keeps.{takes}
use Rattle.branch_pool.proofs.ends.Owner.pop.Goals as goal

pub pop_as-requires-clause-fifo : goal.pop_as-requires-clause-fifo
pop_as-requires-clause-fifo g c _ = takes _ _

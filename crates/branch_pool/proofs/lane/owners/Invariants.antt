use Rattle.std.proofs.Common.{◌≡◌, vec_len}
use Rattle.std.specs.List.{All}
use Rattle.branch_pool.specs.Deques.{new_end}
use Rattle.branch_pool.proofs.lane.owners.Given as goal

abbrev pub invariant-loop : goal.invariant-loop
invariant-loop g l = (vec_len l.owners ≡ l.counter) × All (λ o. o ≡ new_end o.deque) l.owners.items

use Rattle.std.proofs.Common.{◌≡◌, map, take}
use Rattle.branch_pool.specs.Deques.{new_end}
use Rattle.branch_pool.proofs.lane.doors.Given as goal

abbrev pub invariant-loop-owner : goal.invariant-loop-owner
invariant-loop-owner g l = l.doors.items ≡ map (λ o. new_end o.deque) (take l.owner-index l.owners)

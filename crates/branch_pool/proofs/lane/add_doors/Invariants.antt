use Rattle.std.proofs.Common.{◌≡◌, ◌++◌, map, take}
use Rattle.branch_pool.specs.Deques.{new_end}
use Rattle.branch_pool.proofs.lane.add_doors.Given as goal

abbrev pub invariant-loop-door : goal.invariant-loop-door
invariant-loop-door g l = l.beside.items ≡ l.fn.beside.items ++ map (λ d. new_end d.deque) (take l.door-index l.doors)

use Rattle.std.proofs.Common.{◌≡◌, ◌+◌, length, vec_len}
use Rattle.branch_pool.proofs.seat.seats.Given as goal

abbrev pub invariant-loop-lane : goal.invariant-loop-lane
invariant-loop-lane g l = vec_len l.seats + length l.lane-iterator.rest.items ≡ l.fn.count

use Rattle.std.proofs.Common.{◌≡◌}
use Rattle.branch_pool.proofs.lane.Lane.steal_among.Given as goal

abbrev pub invariant-loop-from : goal.invariant-loop-from
invariant-loop-from g l = l.self ≡ l.fn.self

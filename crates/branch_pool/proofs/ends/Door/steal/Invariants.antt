use Rattle.std.proofs.Common.{◌≡◌}
use Rattle.crossbeam_deque.specs.Handles.{view, stealer_deque, stealer_flavor, IsPassOf}
use Rattle.branch_pool.specs.Deques.{end_is}
use Rattle.branch_pool.proofs.ends.Door.steal.Given as goal

abbrev pub invariant-loop : goal.invariant-loop
invariant-loop g l =
    IsPassOf (stealer_deque l.self-inside.thief) l.self-inside.pass
    × (stealer_flavor l.self-inside.thief ≡ 0)
    × (end_is (stealer_deque l.self-inside.thief) (view l.self-inside.pass) ≡ l.fn.self)

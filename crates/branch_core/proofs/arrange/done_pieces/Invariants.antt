use Rattle.std.proofs.Common.{◌≡◌}
use Rattle.branch_core.specs.Machine.{done_of}
use Rattle.branch_core.proofs.arrange.done_pieces.Given as goal

abbrev pub invariant-loop-event : goal.invariant-loop-event
invariant-loop-event g l = l.done.items ≡ done_of l.yielded

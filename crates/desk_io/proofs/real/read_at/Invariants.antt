use Rattle.std.proofs.Common.{length, ◌-◌, ◌≤◌}
use Rattle.desk_io.proofs.real.read_at.Given as goal

abbrev pub invariant-loop-filled : goal.invariant-loop-filled
invariant-loop-filled g l = l.filled ≤ length l.piece

abbrev pub decreases-loop-filled : goal.decreases-loop-filled
decreases-loop-filled g l = length l.initial.piece - l.filled

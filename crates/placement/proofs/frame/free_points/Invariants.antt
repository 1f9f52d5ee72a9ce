use Rattle.std.proofs.Common.{◌≡◌, ◌++◌, length}
use Rattle.placement.specs.Placing.{free_points}
use Rattle.placement.proofs.frame.free_points.Given as goal

abbrev pub invariant-loop-rest : goal.invariant-loop-rest
invariant-loop-rest l = l.points.items ++ free_points l.rest ≡ free_points l.fn.acts

abbrev pub decreases-loop-rest : goal.decreases-loop-rest
decreases-loop-rest l = length l.rest

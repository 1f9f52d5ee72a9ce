use Rattle.std.proofs.Common.{length}
use Rattle.placement.proofs.Counting.{Left}
use Rattle.placement.proofs.image.points_made.Given as goal

abbrev pub invariant-loop-act : goal.invariant-loop-act
invariant-loop-act l = Left l.count l.rest l.fn.acts

abbrev pub decreases-loop-act : goal.decreases-loop-act
decreases-loop-act l = length l.rest

use Rattle.std.proofs.Common.{◌≡◌, length}
use Rattle.proof_steps.specs.Trees.{same_list}
use Rattle.log_checker.proofs.tally.same_list.Given as goal

abbrev pub invariant-loop-p : goal.invariant-loop-p
invariant-loop-p l = same_list l.left l.right ≡ same_list l.fn.a l.fn.b

abbrev pub decreases-loop-p : goal.decreases-loop-p
decreases-loop-p l = length l.left

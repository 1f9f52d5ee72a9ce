use Rattle.std.proofs.Common.{◌≡◌, length}
use Rattle.std.specs.Prelude.{◌↔◌}
use Rattle.log_checker.proofs.against.same_problems.Given as goal

abbrev pub invariant-loop-p : goal.invariant-loop-p
invariant-loop-p l = (l.left ≡ l.right) ↔ (l.fn.a ≡ l.fn.b)

abbrev pub decreases-loop-p : goal.decreases-loop-p
decreases-loop-p l = length l.left

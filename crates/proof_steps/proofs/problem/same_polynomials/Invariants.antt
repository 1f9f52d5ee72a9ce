use Rattle.std.proofs.Common.{◌≡◌, length}
use Rattle.std.specs.Prelude.{◌↔◌}
use Rattle.proof_steps.proofs.problem.same_polynomials.Given as goal

abbrev pub invariant-loop-p : goal.invariant-loop-p
invariant-loop-p l = (l.left ≡ l.right) ↔ (l.fn.a ≡ l.fn.b)

abbrev pub decreases-loop-p : goal.decreases-loop-p
decreases-loop-p l = length l.left

use Rattle.std.proofs.Common.{IsTrue, length}
use Rattle.std.specs.List.{list_all}
use Rattle.poly_model.specs.Standard.{is_standard}
use Rattle.proof_steps.proofs.problem.are_within_limits.Given as goal

abbrev pub invariant-loop-p : goal.invariant-loop-p
invariant-loop-p l = IsTrue (list_all is_standard l.rest) → IsTrue (list_all is_standard l.fn.polynomials)

abbrev pub decreases-loop-p : goal.decreases-loop-p
decreases-loop-p l = length l.rest

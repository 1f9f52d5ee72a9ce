use Rattle.std.proofs.Common.{◌≡◌, ◌≤◌, drop, length}
use Rattle.proof_steps.specs.Chain.{reducing_class}
use Rattle.log_checker.proofs.due.reducing_class.Given as goal

abbrev pub invariant-loop-i : goal.invariant-loop-i
invariant-loop-i l = record { within : l.i ≤ length l.eqs; value : l.greatest ≡ reducing_class (drop l.i l.eqs) l.p }

abbrev pub decreases-loop-i : goal.decreases-loop-i
decreases-loop-i l = l.i

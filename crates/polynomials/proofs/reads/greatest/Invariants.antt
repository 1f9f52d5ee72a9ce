use Rattle.std.proofs.Common.{◌≡◌, ◌≤◌, drop, length}
use Rattle.poly_model.specs.Reduction.{monomial_class}
use Rattle.polynomials.proofs.reads.greatest.Given as goal

abbrev pub invariant-loop-i : goal.invariant-loop-i
invariant-loop-i l = record { within : l.i ≤ length l.exps; none : monomial_class (drop l.i l.exps) ≡ 0 }

abbrev pub decreases-loop-i : goal.decreases-loop-i
decreases-loop-i l = l.i

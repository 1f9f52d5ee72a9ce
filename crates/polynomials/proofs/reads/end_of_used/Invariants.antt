use Rattle.std.proofs.Common.{◌≡◌, ◌≤◌, ◌%◌, drop}
use Rattle.poly_model.specs.Reduction.{monomial_class}
use Rattle.poly_model.specs.declared.limits.TheConstants.{MOST_VARIABLES}
use Rattle.polynomials.proofs.reads.end_of_used.Given as goal

abbrev pub invariant-loop-end : goal.invariant-loop-end
invariant-loop-end l = record { within : l.end ≤ MOST_VARIABLES; whole : l.end % 8 ≡ 0; none : monomial_class (drop l.end l.exps) ≡ 0 }

abbrev pub decreases-loop-end : goal.decreases-loop-end
decreases-loop-end l = l.end

use Rattle.std.proofs.Common.{◌≡◌, ◌≤◌, ◌%◌, drop}
use Rattle.std.specs.declared.cmp.Ordering.TheVariants.{Equal}
use Rattle.poly_model.specs.declared.limits.TheConstants.{MOST_VARIABLES}
use Rattle.poly_model.specs.Polynomial.{monomial_cmp}
use Rattle.polynomials.proofs.exponents.compare_below.Given as goal

abbrev pub invariant-loop-i : goal.invariant-loop-i
invariant-loop-i l = record { within : l.i ≤ MOST_VARIABLES; whole : l.i % 8 ≡ 0; same : monomial_cmp (drop l.i l.a) (drop l.i l.b) ≡ Equal }

abbrev pub decreases-loop-i : goal.decreases-loop-i
decreases-loop-i l = l.i

use Rattle.std.proofs.Common.{◌≡◌, ◌≤◌, drop, length}
use Rattle.poly_model.specs.Content.{coefficients_gcd}
use Rattle.poly_model.specs.Standard.{polynomial_of}
use Rattle.term_store.specs.States.{list_at}
use Rattle.polynomials.proofs.contents.common_divisor.Given as goal

abbrev pub invariant-loop-i : goal.invariant-loop-i
invariant-loop-i g l =
    let xs = list_at (g.S.TermStore.state l.s).lists l.q.0 in
    record { within : l.i ≤ length xs; value : l.divisor ≡ coefficients_gcd (polynomial_of (drop l.i xs)) }

abbrev pub decreases-loop-i : goal.decreases-loop-i
decreases-loop-i g l = l.i

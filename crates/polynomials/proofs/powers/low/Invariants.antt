use Rattle.std.proofs.Common.{◌≡◌, drop}
use Rattle.poly_model.specs.Powers.{least_exponent, low_at}
use Rattle.poly_model.specs.Standard.{polynomial_of}
use Rattle.term_store.specs.States.{list_at}
use Rattle.polynomials.proofs.powers.low.Given as goal

abbrev pub invariant-loop-i : goal.invariant-loop-i
invariant-loop-i g l =
    let xs = list_at (g.S.TermStore.state l.s).lists l.a.slot.0 in
    least_exponent l.var l.least (polynomial_of (drop l.i xs)) ≡ low_at l.var (polynomial_of xs)

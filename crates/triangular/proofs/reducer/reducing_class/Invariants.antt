use Rattle.std.proofs.Common.{◌≡◌, length, max}
use Rattle.polynomials.specs.Held.{polynomial_at}
use Rattle.triangular.specs.Reducers.{AreWithin, reducing_in}
use Rattle.triangular.proofs.reducer.reducing_class.Given as goal

abbrev pub invariant-loop-first : goal.invariant-loop-first
invariant-loop-first g l =
    let p = polynomial_at (g.S.TermStore.state l.s) l.p in
    record { within : AreWithin l.rest; same : max l.greatest (reducing_in p l.rest) ≡ reducing_in p l.hs }

abbrev pub decreases-loop-first : goal.decreases-loop-first
decreases-loop-first g l = length l.rest

use Rattle.std.proofs.Common.{◌≡◌, length, map}
use Rattle.poly_model.specs.Reduction.{has_polynomial}
use Rattle.polynomials.specs.Held.{polynomial_at}
use Rattle.workbench.specs.Standing.{AreFound, held_at}
use Rattle.workbench.proofs.repeats.is_equation.Given as goal

abbrev pub invariant-loop-first : goal.invariant-loop-first
invariant-loop-first g l =
    let s = g.S.TermStore.state l.s in
    record { same : has_polynomial (map (held_at s) l.rest) (polynomial_at s l.p) ≡ has_polynomial (map (held_at s) l.hs) (polynomial_at s l.p); found : AreFound s l.rest }

abbrev pub decreases-loop-first : goal.decreases-loop-first
decreases-loop-first g l = length l.rest

use Rattle.std.proofs.Common.{◌≡◌, ◌+◌, length, map}
use Rattle.poly_model.specs.Reduction.{same}
use Rattle.polynomials.specs.Held.{polynomial_at}
use Rattle.workbench.specs.Searches.{place_at}
use Rattle.workbench.specs.Standing.{AreHeld}
use Rattle.workbench.proofs.repeats.number_among.Given as goal

abbrev pub invariant-loop-first : goal.invariant-loop-first
invariant-loop-first g l =
    let s = g.S.TermStore.state l.s in
    record {
      place : place_at (λ q. same q (polynomial_at s l.p)) l.k (map (polynomial_at s) l.rest) ≡ place_at (λ q. same q (polynomial_at s l.p)) 1 (map (polynomial_at s) l.ps);
      count : l.k + length l.rest ≡ 1 + length l.ps;
      held : AreHeld s l.rest;
    }

abbrev pub decreases-loop-first : goal.decreases-loop-first
decreases-loop-first g l = length l.rest

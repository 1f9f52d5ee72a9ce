use Rattle.std.proofs.Common.{◌≡◌, ◌+◌, length, map}
use Rattle.poly_model.specs.Reduction.{has_polynomial}
use Rattle.polynomials.specs.Held.{polynomial_at}
use Rattle.workbench.specs.Searches.{place_of}
use Rattle.workbench.specs.Standing.{AreFound, held_at}
use Rattle.workbench.proofs.repeats.clashed.Given as goal

abbrev pub invariant-loop-first : goal.invariant-loop-first
invariant-loop-first g l =
    let s = g.S.TermStore.state l.s in
    record {
      place : place_of (λ k h. has_polynomial (map (polynomial_at s) l.nes) (held_at s h)) l.k l.rest ≡ place_of (λ k h. has_polynomial (map (polynomial_at s) l.nes) (held_at s h)) 1 l.hs;
      count : l.k + length l.rest ≡ 1 + length l.hs;
      found : AreFound s l.rest;
    }

abbrev pub decreases-loop-first : goal.decreases-loop-first
decreases-loop-first g l = length l.rest

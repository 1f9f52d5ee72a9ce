use Rattle.std.proofs.Common.{◌≡◌, length, map}
use Rattle.poly_model.specs.Reduction.{has_polynomial}
use Rattle.polynomials.specs.Held.{polynomial_at}
use Rattle.workbench.specs.Standing.{AreHeld}
use Rattle.workbench.proofs.facts.is_member.Given as goal

abbrev pub invariant-loop-first : goal.invariant-loop-first
invariant-loop-first g l =
    let s = g.S.TermStore.state l.s in
    record {
      same : has_polynomial (map (polynomial_at s) l.rest) (polynomial_at s l.p) ≡ has_polynomial (map (polynomial_at s) l.ps) (polynomial_at s l.p);
      held : AreHeld s l.rest;
    }

abbrev pub decreases-loop-first : goal.decreases-loop-first
decreases-loop-first g l = length l.rest

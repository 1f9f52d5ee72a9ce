use Rattle.std.proofs.Common.{◌≡◌, ◌+◌, ◌≤◌, length, map}
use Rattle.polynomials.specs.Held.{polynomial_at}
use Rattle.workbench.specs.Standing.{AreHeld}
use Rattle.triangular.specs.Counting.{count_of}
use Rattle.triangular.proofs.system.count.Given as goal

abbrev pub invariant-loop-first : goal.invariant-loop-first
invariant-loop-first g l =
    let s = g.S.TermStore.state l.s in
    record {
      same : l.sum + count_of l.x (map (polynomial_at s) l.rest) ≡ count_of l.x (map (polynomial_at s) l.eqs);
      few : l.sum + length l.rest ≤ length l.eqs;
      held : AreHeld s l.rest;
    }

abbrev pub decreases-loop-first : goal.decreases-loop-first
decreases-loop-first g l = length l.rest

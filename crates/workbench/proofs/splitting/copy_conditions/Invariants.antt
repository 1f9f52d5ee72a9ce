use Rattle.std.proofs.Common.{◌≡◌, ◌++◌, length, map}
use Rattle.polynomials.specs.Held.{polynomial_at}
use Rattle.workbench.specs.Standing.{AreHeld}
use Rattle.workbench.proofs.splitting.copy_conditions.Given as goal

abbrev pub invariant-loop-first : goal.invariant-loop-first
invariant-loop-first g l =
    let s = g.S.TermStore.state l.s in
    record { same : l.copies.items ++ map (polynomial_at s) l.rest ≡ map (polynomial_at s) l.ps; held : AreHeld s l.rest }

abbrev pub decreases-loop-first : goal.decreases-loop-first
decreases-loop-first g l = length l.rest

use Rattle.std.proofs.Common.{◌≡◌, ◌++◌, length, map}
use Rattle.workbench.specs.Standing.{AreFound, held_at}
use Rattle.workbench.proofs.splitting.copy_equations.Given as goal

abbrev pub invariant-loop-first : goal.invariant-loop-first
invariant-loop-first g l =
    let s = g.S.TermStore.state l.s in
    record { same : l.copies.items ++ map (held_at s) l.rest ≡ map (held_at s) l.hs; found : AreFound s l.rest }

abbrev pub decreases-loop-first : goal.decreases-loop-first
decreases-loop-first g l = length l.rest

use Rattle.std.proofs.Common.{◌≡◌, length}
use Rattle.workbench.specs.Searches.{among_in}
use Rattle.workbench.specs.Standing.{AreFound, held_at}
use Rattle.workbench.proofs.repeats.is_among.Given as goal

abbrev pub invariant-loop-first : goal.invariant-loop-first
invariant-loop-first g l =
    let s = g.S.TermStore.state l.s in
    record { same : among_in (held_at s) l.rest l.h ≡ among_in (held_at s) l.hs l.h; found : AreFound s l.rest }

abbrev pub decreases-loop-first : goal.decreases-loop-first
decreases-loop-first g l = length l.rest

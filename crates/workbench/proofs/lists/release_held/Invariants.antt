use Rattle.std.proofs.Common.{length, map}
use Rattle.term_store.specs.Changes.{Keeps}
use Rattle.workbench.specs.Owned.{AreLive, without}
use Rattle.workbench.specs.Standing.{held_slot}
use Rattle.workbench.proofs.lists.release_held.Given as goal

abbrev pub invariant-loop-first : goal.invariant-loop-first
invariant-loop-first g l =
    let s = g.S.TermStore.state l.s in
    record {
      live : AreLive s (map held_slot l.rest);
      left : Keeps (without (g.S.TermStore.state l.initial.s) (map held_slot l.hs)) (without s (map held_slot l.rest));
    }

abbrev pub decreases-loop-first : goal.decreases-loop-first
decreases-loop-first g l = length l.rest

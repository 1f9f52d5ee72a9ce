use Rattle.std.proofs.Common.{length, map}
use Rattle.term_store.specs.Changes.{Keeps}
use Rattle.polynomials.specs.Held.{slot_of}
use Rattle.workbench.specs.Owned.{AreLive, without}
use Rattle.workbench.proofs.lists.release_polys.Given as goal

abbrev pub invariant-loop-first : goal.invariant-loop-first
invariant-loop-first g l =
    let s = g.S.TermStore.state l.s in
    record {
      live : AreLive s (map slot_of l.rest);
      left : Keeps (without (g.S.TermStore.state l.initial.s) (map slot_of l.ps)) (without s (map slot_of l.rest));
    }

abbrev pub decreases-loop-first : goal.decreases-loop-first
decreases-loop-first g l = length l.rest

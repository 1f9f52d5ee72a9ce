use Rattle.std.proofs.Common.{◌≡◌, ◌++◌, length, map}
use Rattle.term_store.specs.Changes.{Keeps}
use Rattle.polynomials.specs.Held.{polynomial_at}
use Rattle.workbench.specs.Standing.{AllTell, AreHeld, held_at, poly_of}
use Rattle.workbench.proofs.facts.all_held.Given as goal

abbrev pub invariant-loop-first : goal.invariant-loop-first
invariant-loop-first g l =
    let s = g.S.TermStore.state l.initial.s in
    record {
      kept : Keeps s (g.S.TermStore.state l.s);
      polys : map poly_of l.hs.items ++ l.rest ≡ l.ps;
      tell : AllTell (map (polynomial_at s) l.nes) l.hs.items (map (held_at s) l.hs.items);
      held : AreHeld s l.rest;
    }

abbrev pub decreases-loop-first : goal.decreases-loop-first
decreases-loop-first g l = length l.rest

use Rattle.std.proofs.Common.{◌≡◌, ◌+◌, ◌-◌, ◌++◌, length, take, drop}
use Rattle.std.specs.Prelude.{Some}
use Rattle.term_store.specs.States.{list_at}
use Rattle.term_store.specs.Changes.{Makes}
use Rattle.polynomials.specs.Held.{slot_of}
use Rattle.polynomials.proofs.groups.copy_part.Given as goal

abbrev pub invariant-loop-i : goal.invariant-loop-i
invariant-loop-i g l =
    let state = g.S.TermStore.state in
    let xs = list_at (state l.fn.s).lists (slot_of l.a) in
    let out = list_at (state l.s).lists l.out.0 in
    record {
      made : Makes (state l.fn.s) (state l.s) l.out.0;
      newest : (state l.s).newest ≡ Some l.out.0;
      long : length out + l.from ≡ l.i;
      value : out ++ take ((l.from + l.count) - l.i) (drop l.i xs) ≡ take l.count (drop l.from xs);
    }

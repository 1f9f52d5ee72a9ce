use Rattle.std.proofs.Common.{◌≡◌, ◌++◌, drop}
use Rattle.std.specs.Prelude.{Some}
use Rattle.term_store.specs.States.{list_at}
use Rattle.term_store.specs.Changes.{Makes}
use Rattle.polynomials.proofs.copies.copy_in.Given as goal

abbrev pub invariant-loop-i : goal.invariant-loop-i
invariant-loop-i g l =
    let state = g.S.TermStore.state in
    let out = list_at (state l.s).lists l.out.0 in
    record {
      made : Makes (state l.fn.s) (state l.s) l.out.0;
      newest : (state l.s).newest ≡ Some l.out.0;
      value : out ++ drop l.i l.terms ≡ l.terms;
    }

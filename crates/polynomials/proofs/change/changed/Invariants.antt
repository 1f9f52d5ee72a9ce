use Rattle.std.proofs.Common.{◌≡◌, ◌≤◌, ◌++◌, length, drop}
use Rattle.std.specs.Prelude.{Some}
use Rattle.poly_model.specs.Standard.{polynomial_of}
use Rattle.term_store.specs.States.{list_at}
use Rattle.term_store.specs.Changes.{Makes}
use Rattle.polynomials.specs.Pieces.{pieces_of}
use Rattle.polynomials.proofs.change.changed.Given as goal

abbrev pub invariant-loop-i : goal.invariant-loop-i
invariant-loop-i g l =
    let state = g.S.TermStore.state in
    let qs = list_at (state l.fn.s).lists l.q.0 in
    let out = list_at (state l.s).lists l.out.0 in
    let pieces = pieces_of (g.C.Change.piece l.change) in
    record {
      made : Makes (state l.fn.s) (state l.s) l.out.0;
      newest : (state l.s).newest ≡ Some l.out.0;
      long : length out ≤ l.i;
      value : polynomial_of out ++ pieces (polynomial_of (drop l.i qs)) ≡ pieces (polynomial_of qs);
    }

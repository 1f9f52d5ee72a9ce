use Rattle.std.proofs.Common.{◌≡◌, ◌++◌, length, drop, true}
use Rattle.std.specs.Prelude.{Some}
use Rattle.poly_model.specs.Standard.{polynomial_of}
use Rattle.term_store.specs.States.{list_at}
use Rattle.term_store.specs.Changes.{Makes}
use Rattle.poly_model.specs.Standard.{are_bounded}
use Rattle.poly_model.specs.Bounded.{multiple}
use Rattle.polynomials.proofs.rows.multiple.Given as goal

abbrev pub invariant-loop-i : goal.invariant-loop-i
invariant-loop-i g l =
    let state = g.S.TermStore.state in
    let qs = list_at (state l.fn.s).lists l.q.0 in
    let out = list_at (state l.s).lists l.out.0 in
    record {
      made : Makes (state l.fn.s) (state l.s) l.out.0;
      newest : (state l.s).newest ≡ Some l.out.0;
      long : length out ≡ l.i;
      value : polynomial_of out ++ multiple l.factor.exps l.factor.coef (polynomial_of (drop l.i qs)) ≡ multiple l.factor.exps l.factor.coef (polynomial_of qs);
      bounded : are_bounded (polynomial_of out) ≡ true;
    }

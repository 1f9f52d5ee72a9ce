use Rattle.std.proofs.Common.{◌≡◌, ◌≤◌, ◌+◌, ◌-◌, length, drop}
use Rattle.std.specs.Prelude.{Some}
use Rattle.poly_model.specs.Polynomial.{poly_sum}
use Rattle.poly_model.specs.Standard.{polynomial_of}
use Rattle.term_store.specs.States.{list_at}
use Rattle.term_store.specs.Changes.{Makes}
use Rattle.polynomials.proofs.Merging.{Merging}
use Rattle.polynomials.proofs.rows.merge.Given as goal

abbrev pub invariant-loop-i : goal.invariant-loop-i
invariant-loop-i g l =
    let state = g.S.TermStore.state in
    let xs = list_at (state l.fn.s).lists l.a.0 in
    let ys = list_at (state l.fn.s).lists l.b.0 in
    let out = list_at (state l.s).lists l.out.0 in
    record {
      made : Makes (state l.fn.s) (state l.s) l.out.0;
      newest : (state l.s).newest ≡ Some l.out.0;
      long : length out ≤ l.i + l.j;
      first : l.i ≤ length xs;
      second : l.j ≤ length ys;
      merging : Merging out (drop l.i xs) (drop l.j ys) (poly_sum (polynomial_of xs) (polynomial_of ys));
    }

abbrev pub decreases-loop-i : goal.decreases-loop-i
decreases-loop-i g l = (l.end_a + l.end_b) - (l.i + l.j)

use Rattle.std.proofs.Common.{◌≤◌, ◌-◌, drop, length}
use Rattle.std.specs.Prelude.{[]}
use Rattle.poly_model.specs.Standard.{polynomial_of}
use Rattle.term_store.specs.States.{list_at}
use Rattle.term_store.specs.Changes.{Makes}
use Rattle.poly_model.specs.Bounded.{bounded_rows}
use Rattle.polynomials.specs.Held.{polynomial_at}
use Rattle.polynomials.proofs.Outcomes.{Summing}
use Rattle.polynomials.proofs.product.rows_in_turn.Given as goal

abbrev pub invariant-loop-i : goal.invariant-loop-i
invariant-loop-i g l =
    let state = g.S.TermStore.state in
    record {
      made : Makes (state l.fn.s) (state l.s) l.sum.0;
      within : l.i ≤ length (list_at (state l.fn.s).lists l.a.slot.0);
      summing : Summing (polynomial_of (drop l.i (list_at (state l.fn.s).lists l.a.slot.0))) (polynomial_at (state l.fn.s) l.b) (polynomial_of (list_at (state l.s).lists l.sum.0))
          (bounded_rows (polynomial_at (state l.fn.s) l.a) (polynomial_at (state l.fn.s) l.b) []);
    }

abbrev pub decreases-loop-i : goal.decreases-loop-i
decreases-loop-i g l = l.count - l.i

use Rattle.std.proofs.Common.{◌≡◌, ◌≤◌, ◌-◌, ℕ, suc, length, true}
use Rattle.std.specs.Vec.{vec_capacity}
use Rattle.term_region.specs.Pool.{run_at, Settled, IsTop, Stays}
use Rattle.term_region.proofs.moving.compact.Given as goal

abbrev pub invariant-loop-i : goal.invariant-loop-i
invariant-loop-i l = record {
  settled : Settled l.runs.items l.order.items (length l.terms.items) l.i l.edge.kept l.edge.end;
  stays : Stays l.fn.terms.items l.fn.runs.items l.terms.items l.runs.items;
  top : (k : ℕ) → (run_at l.fn.runs.items k).live ≡ true → suc (run_at l.fn.runs.items k).rank ≡ length l.fn.order.items
      → IsTop l.runs.items k l.i l.edge.kept l.edge.end (length l.order.items);
  terms : length l.terms.items ≡ length l.fn.terms.items;
  order : length l.order.items ≡ length l.fn.order.items;
  within : l.i ≤ length l.order.items;
  terms_room : vec_capacity l.terms ≡ vec_capacity l.fn.terms;
  runs_room : vec_capacity l.runs ≡ vec_capacity l.fn.runs;
  order_room : vec_capacity l.order ≡ vec_capacity l.fn.order;
}

abbrev pub decreases-loop-i : goal.decreases-loop-i
decreases-loop-i l = length l.order.items - l.i

use Rattle.std.proofs.Common.{◌≡◌, ◌≤◌, ◌<◌, ◌+◌, [], drop, length, sym, ◌∙◌, ap, subst, arith, refl}
use Rattle.poly_model.specs.Standard.{polynomial_of}
use Rattle.poly_model.specs.Bounded.{bounded_rows}
use Rattle.poly_model.proofs.Within.{within-of, bounded_product-standard}
use Rattle.term_store.specs.States.{list_at}
use Rattle.term_store.specs.Changes.{given_up}
use Rattle.term_store.proofs.Making as making
use Rattle.polynomials.specs.Held.{Outcome, polynomial_at, slot_of}
use Rattle.polynomials.specs.Sizes.{part_of}
use Rattle.polynomials.proofs.Steps as steps
use Rattle.polynomials.proofs.Outcomes as outcomes
use Rattle.polynomials.proofs.Outcomes.{Summing}
use Rattle.polynomials.proofs.Results as results
use Rattle.polynomials.proofs.RowGroups as groups
use Rattle.polynomials.proofs.product.rows_in_turn.Goals as goal

pub loop-i-init : goal.loop-i-init
loop-i-init g c =
    let m = making.makes-fresh _ _ _ c.fresh-sum.ensures.vacant c.fresh-sum.ensures.lists c.fresh-sum.ensures.spare in
    record { made = m.0; within = omega arith; summing = outcomes.summing-start _ _ _ (ap polynomial_of m.1) }

pub next_rows-rows-requires-clause-live_a : goal.next_rows-rows-requires-clause-live_a
next_rows-rows-requires-clause-live_a g c =
    making.makes-other-live _ _ _ _ c.loop-i.invariant.made c.requires.a.live

pub next_rows-rows-requires-clause-live_b : goal.next_rows-rows-requires-clause-live_b
next_rows-rows-requires-clause-live_b g c =
    making.makes-other-live _ _ _ _ c.loop-i.invariant.made c.requires.b.live

pub next_rows-rows-requires-clause-live_sum : goal.next_rows-rows-requires-clause-live_sum
next_rows-rows-requires-clause-live_sum g c =
    making.makes-live _ _ _ c.loop-i.invariant.made

pub next_rows-rows-requires-clause-below : goal.next_rows-rows-requires-clause-below
next_rows-rows-requires-clause-below g c =
    steps.readable _ _ _ _ _ c.loop-i.invariant.made c.requires.a.live (omega arith)

pub next_rows-rows-requires-clause-short : goal.next_rows-rows-requires-clause-short
next_rows-rows-requires-clause-short g c =
    let long = steps.polynomial-length (list_at (g.S.TermStore.state c.loop-i.s).lists c.loop-i.sum.0) in
    omega (arith, long, c.loop-i.invariant.summing.short)

pub add_rows-requires-clause-a : goal.add_rows-requires-clause-a
add_rows-requires-clause-a g c =
    results.kept-poly _ _ _ _ c.loop-i.invariant.made c.requires.a

pub add_rows-requires-clause-b : goal.add_rows-requires-clause-b
add_rows-requires-clause-b g c =
    results.kept-poly _ _ _ _ c.loop-i.invariant.made c.requires.b

pub add_rows-requires-clause-live : goal.add_rows-requires-clause-live
add_rows-requires-clause-live g c =
    making.makes-live _ _ _ c.loop-i.invariant.made

pub add_rows-requires-clause-descending : goal.add_rows-requires-clause-descending
add_rows-requires-clause-descending g c =
    c.loop-i.invariant.summing.descending

pub add_rows-requires-clause-bounded : goal.add_rows-requires-clause-bounded
add_rows-requires-clause-bounded g c =
    c.loop-i.invariant.summing.bounded

pub add_rows-requires-clause-short : goal.add_rows-requires-clause-short
add_rows-requires-clause-short g c =
    let long = steps.polynomial-length (list_at (g.S.TermStore.state c.loop-i.s).lists c.loop-i.sum.0) in
    omega (arith, long, c.loop-i.invariant.summing.short)

pub add_rows-requires-clause-room : goal.add_rows-requires-clause-room
add_rows-requires-clause-room g c =
    let long = steps.polynomial-length (list_at (g.S.TermStore.state c.loop-i.s).lists c.loop-i.sum.0) in
    omega (arith, long, c.loop-i.invariant.summing.short, c.loop-i.invariant.made.spare, c.requires.room)

pub overflow_add-i : goal.overflow_add-i
overflow_add-i g c =
    let kept = making.makes-other _ _ _ _ c.loop-i.invariant.made c.requires.a.live in
    let short = outcomes.few (g.S.TermStore.state c.args.s.now) (slot_of c.args.a) c.requires.a.standard in
    omega (arith, ap length kept, short, c.next_rows-rows.ensures.within)

pub loop-i-preserved : goal.loop-i-preserved
loop-i-preserved g c =
    let s = g.S.TermStore.state c.args.s.now in
    let t = g.S.TermStore.state c.loop-i.s in
    let u = g.S.TermStore.state c.add_rows.new.s in
    let xs = list_at s.lists c.args.a.slot.0 in
    let q = polynomial_at s c.args.b in
    let sum = polynomial_of (list_at t.lists c.loop-i.sum.0) in
    let i = c.loop-i.i in
    let rows = c.next_rows-rows.result in
    let wa = within-of (polynomial_at s c.args.a) c.requires.a.standard in
    let wb = within-of q c.requires.b.standard in
    let kept_a = making.makes-other s t _ _ c.loop-i.invariant.made c.requires.a.live in
    let kept_b = making.makes-other s t _ _ c.loop-i.invariant.made c.requires.b.live in
    let same : bounded_rows (part_of xs i rows) q sum ≡ bounded_rows (part_of (list_at t.lists (slot_of c.args.a)) i rows) (polynomial_at t c.args.b) sum =
    λ k. bounded_rows (part_of (sym kept_a k) i rows) (polynomial_of (sym kept_b k)) sum in
    let out = outcomes.outcome-ok _ _ c.in-Ok.next _ (subst (λ r. Outcome (given_up t c.loop-i.sum.0) u r (bounded_rows (part_of (list_at t.lists (slot_of c.args.a)) i rows) (polynomial_at t c.args.b) sum)) c.in-Ok.is c.add_rows.ensures) in
    record {
      made = making.makes-instead _ _ _ _ _ c.loop-i.invariant.made out.0;
      within = omega (arith, ap length kept_a, c.next_rows-rows.ensures.within);
      summing = groups.group-next xs i rows q sum _ _ wa.descending wb.descending c.loop-i.invariant.summing (same ∙ out.1);
    }

pub returns-in-Err : goal.returns-in-Err
returns-in-Err g c =
    let s = g.S.TermStore.state c.args.s.now in
    let t = g.S.TermStore.state c.loop-i.s in
    let u = g.S.TermStore.state c.add_rows.new.s in
    let xs = list_at s.lists c.args.a.slot.0 in
    let q = polynomial_at s c.args.b in
    let sum = polynomial_of (list_at t.lists c.loop-i.sum.0) in
    let i = c.loop-i.i in
    let rows = c.next_rows-rows.result in
    let wa = within-of (polynomial_at s c.args.a) c.requires.a.standard in
    let wb = within-of q c.requires.b.standard in
    let kept_a = making.makes-other s t _ _ c.loop-i.invariant.made c.requires.a.live in
    let kept_b = making.makes-other s t _ _ c.loop-i.invariant.made c.requires.b.live in
    let same : bounded_rows (part_of xs i rows) q sum ≡ bounded_rows (part_of (list_at t.lists (slot_of c.args.a)) i rows) (polynomial_at t c.args.b) sum =
    λ k. bounded_rows (part_of (sym kept_a k) i rows) (polynomial_of (sym kept_b k)) sum in
    let out = outcomes.outcome-err _ _ c.in-Err.limit _ (subst (λ r. Outcome (given_up t c.loop-i.sum.0) u r (bounded_rows (part_of (list_at t.lists (slot_of c.args.a)) i rows) (polynomial_at t c.args.b) sum)) c.in-Err.is c.add_rows.ensures) in
    let whole = outcomes.product-rows (polynomial_at s c.args.a) q c.requires.fit
    ∙ groups.group-stops xs i rows q sum c.in-Err.limit _ wa.descending wb.descending c.loop-i.invariant.summing (same ∙ out.1) in
    outcomes.answers-err _ _ _ _ whole (making.keeps-instead _ _ _ _ c.loop-i.invariant.made out.0)

pub returns : goal.returns
returns g c =
    let as' = list_at (g.S.TermStore.state c.args.s.now).lists c.args.a.slot.0 in
    let done : drop c.loop-i.i as' ≡ [] = steps.all-dropped as' c.loop-i.i (omega arith) in
    let after = subst (λ l. Summing (polynomial_of l) (polynomial_at (g.S.TermStore.state c.args.s.now) c.args.b) (polynomial_of (list_at (g.S.TermStore.state c.loop-i.s).lists c.loop-i.sum.0)) (bounded_rows (polynomial_at (g.S.TermStore.state c.args.s.now) c.args.a) (polynomial_at (g.S.TermStore.state c.args.s.now) c.args.b) [])) done c.loop-i.invariant.summing in
    let whole = outcomes.product-rows (polynomial_at (g.S.TermStore.state c.args.s.now) c.args.a) (polynomial_at (g.S.TermStore.state c.args.s.now) c.args.b) c.requires.fit ∙ sym after.value in
    outcomes.answers-ok _ _ _ _ _ whole c.loop-i.invariant.made refl (bounded_product-standard (polynomial_at (g.S.TermStore.state c.args.s.now) c.args.a) (polynomial_at (g.S.TermStore.state c.args.s.now) c.args.b) _ c.requires.a.standard c.requires.b.standard whole)

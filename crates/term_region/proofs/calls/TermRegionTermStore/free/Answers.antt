use Rattle.std.proofs.Common.{ℕ, ◌+◌, ◌<◌, ◌≤◌, ◌≢◌, subst, ◌≡◌, sym, ◌∙◌, ap, arith, refl, length, true}
use Rattle.std.proofs.lemmas.List.{get_or_read_under}
use Rattle.term_store.specs.Runs as store
use Rattle.term_region.specs.declared.run.Run.{Run}
use Rattle.term_store.specs.States.{newest_without}
use Rattle.term_region.specs.Pool.{no_run, run_at, seen, Ordered, ends_last, newest_last}
use Rattle.term_region.proofs.Sums.{live-below}
use Rattle.term_region.proofs.Orders as orders
use Rattle.term_region.proofs.Lists as lists
use Rattle.term_region.proofs.Settling as settling
use Rattle.term_region.proofs.calls.TermRegionTermStore.free.Goals as goal

pub index-run-requires : goal.index-run-requires
index-run-requires c =
    let s = c.args.self.now in
    omega (arith, live-below s.runs.items c.args.slot.0 (lists.live-run s.terms.items s.runs.items c.args.slot.0 c.requires))

pub vacate-requires-clause-live : goal.vacate-requires-clause-live
vacate-requires-clause-live c = lists.live-run c.args.self.now.terms.items c.args.self.now.runs.items c.args.slot.0 c.requires

pub last_end-end-requires-clause-ordered : goal.last_end-end-requires-clause-ordered
last_end-end-requires-clause-ordered c =
    let s = c.args.self.now in
    let k = c.args.slot.0 in
    let live = lists.live-run s.terms.items s.runs.items k c.requires in
    subst (λ r. Ordered r s.order.items c.len.result) (sym c.deref.ensures.value)
    (subst (λ n. Ordered c.vacate.new.runs.items s.order.items n) (omega arith)
    (orders.ordered-vacated s.runs.items c.vacate.new.runs.items s.order.items (length s.terms.items) k s.kept.ordered c.vacate.ensures.dead
    c.vacate.ensures.others c.vacate.ensures.slots))

pub last_end-end-requires-clause-rank : goal.last_end-end-requires-clause-rank
last_end-end-requires-clause-rank c =
    let s = c.args.self.now in
    let live = lists.live-run s.terms.items s.runs.items c.args.slot.0 c.requires in
    omega (arith, ap (λ (r : Run). r.rank) (get_or_read_under s.runs.items c.args.slot.0 _ c.index-run.result.now no_run c.index-run.ensures (live-below s.runs.items c.args.slot.0 live) refl), s.kept.ordered.ranked c.args.slot.0 live)

pub last_end-end-requires-clause-start : goal.last_end-end-requires-clause-start
last_end-end-requires-clause-start c =
    let s = c.args.self.now in
    let live = lists.live-run s.terms.items s.runs.items c.args.slot.0 c.requires in
    let is : c.index-run.result.now ≡ run_at s.runs.items c.args.slot.0 = get_or_read_under s.runs.items c.args.slot.0 _ c.index-run.result.now no_run c.index-run.ensures (live-below s.runs.items c.args.slot.0 live) refl in
    omega (arith, ap (λ (r : Run). r.start) is, s.kept.ordered.inside c.args.slot.0 live)

pub last_end-end-requires-clause-alone : goal.last_end-end-requires-clause-alone
last_end-end-requires-clause-alone c =
    let s = c.args.self.now in
    let live = lists.live-run s.terms.items s.runs.items c.args.slot.0 c.requires in
    let is : c.index-run.result.now ≡ run_at s.runs.items c.args.slot.0 = get_or_read_under s.runs.items c.args.slot.0 _ c.index-run.result.now no_run c.index-run.ensures (live-below s.runs.items c.args.slot.0 live) refl in
    subst (λ (r : Run). (k : ℕ) → (run_at c.deref.result.now k).live ≡ true → (run_at c.deref.result.now k).rank ≢ r.rank) (sym is)
    (subst (λ rs. (k : ℕ) → (run_at rs k).live ≡ true → (run_at rs k).rank ≢ (run_at s.runs.items c.args.slot.0).rank) (sym c.deref.ensures.value)
    (orders.alone s.runs.items c.vacate.new.runs.items s.order.items (length s.terms.items) c.args.slot.0 s.kept.ordered live c.vacate.ensures.dead
    c.vacate.ensures.others))

pub last_end-end-requires-clause-before : goal.last_end-end-requires-clause-before
last_end-end-requires-clause-before c =
    let s = c.args.self.now in
    let live = lists.live-run s.terms.items s.runs.items c.args.slot.0 c.requires in
    let is : c.index-run.result.now ≡ run_at s.runs.items c.args.slot.0 = get_or_read_under s.runs.items c.args.slot.0 _ c.index-run.result.now no_run c.index-run.ensures (live-below s.runs.items c.args.slot.0 live) refl in
    subst (λ (r : Run). (k : ℕ) → (run_at c.deref.result.now k).live ≡ true → (run_at c.deref.result.now k).rank < r.rank
    → (run_at c.deref.result.now k).start + (run_at c.deref.result.now k).len ≤ r.start) (sym is)
    (subst (λ rs. (k : ℕ) → (run_at rs k).live ≡ true → (run_at rs k).rank < (run_at s.runs.items c.args.slot.0).rank
    → (run_at rs k).start + (run_at rs k).len ≤ (run_at s.runs.items c.args.slot.0).start) (sym c.deref.ensures.value)
    (orders.before s.runs.items c.vacate.new.runs.items s.order.items (length s.terms.items) c.args.slot.0 s.kept.ordered live c.vacate.ensures.dead
    c.vacate.ensures.others))

pub overflow_add-self : goal.overflow_add-self
overflow_add-self c =
    let s = c.args.self.now in
    let live = lists.live-run s.terms.items s.runs.items c.args.slot.0 c.requires in
    let is : c.index-run.result.now ≡ run_at s.runs.items c.args.slot.0 = get_or_read_under s.runs.items c.args.slot.0 _ c.index-run.result.now no_run c.index-run.ensures (live-below s.runs.items c.args.slot.0 live) refl in
    omega (arith, ap (λ (r : Run). r.len) is, c.vacate.ensures.units, s.kept.room)

pub overflow_add-self-2 : goal.overflow_add-self-2
overflow_add-self-2 c =
    let s = c.args.self.now in
    let live = lists.live-run s.terms.items s.runs.items c.args.slot.0 c.requires in
    let is : c.index-run.result.now ≡ run_at s.runs.items c.args.slot.0 = get_or_read_under s.runs.items c.args.slot.0 _ c.index-run.result.now no_run c.index-run.ensures (live-below s.runs.items c.args.slot.0 live) refl in
    omega (arith, ap (λ (r : Run). r.len) is, c.vacate.ensures.units, s.kept.room)

pub invariant_of-self : goal.invariant_of-self
invariant_of-self c =
    let s = c.args.self.now in
    let rs = c.vacate.new.runs.items in
    let live = lists.live-run s.terms.items s.runs.items c.args.slot.0 c.requires in
    let is : c.index-run.result.now ≡ run_at s.runs.items c.args.slot.0 = get_or_read_under s.runs.items c.args.slot.0 _ c.index-run.result.now no_run c.index-run.ensures (live-below s.runs.items c.args.slot.0 live) refl in
    let len = ap (λ (r : Run). r.len) is in
    let o : Ordered rs c.last_end-end.new.order.items c.last_end-end.result = subst (λ r. Ordered r c.last_end-end.new.order.items c.last_end-end.result) c.deref.ensures.value c.last_end-end.ensures.ordered in
    let last : (k : ℕ) → ends_last rs (length s.order.items) (length s.terms.items) k ≡ true → ends_last rs (length c.last_end-end.new.order.items) c.last_end-end.result k ≡ true
    = subst (λ r. (k : ℕ) → ends_last r (length s.order.items) (length s.terms.items) k ≡ true → ends_last r (length c.last_end-end.new.order.items) c.last_end-end.result k ≡ true) c.deref.ensures.value
    (subst (λ n. (k : ℕ) → ends_last c.deref.result.now (length s.order.items) n k ≡ true → ends_last c.deref.result.now (length c.last_end-end.new.order.items) c.last_end-end.result k ≡ true) (let e : c.len.result ≡ length s.terms.items = omega arith in e) c.last_end-end.ensures.last) in
    let total : length c.truncate.new.self.items ≡ c.last_end-end.result = omega (arith, c.truncate.ensures.len, c.last_end-end.ensures.within) in
    record {
      kept = record {
        ordered = subst (λ n. Ordered rs c.last_end-end.new.order.items n) (sym total) o;
        free = c.vacate.ensures.vacant;
        last = ap (λ x. newest_last rs (length c.last_end-end.new.order.items) (length c.truncate.new.self.items) x) c.forget.ensures
            ∙ ap (λ n. newest_last rs (length c.last_end-end.new.order.items) n (newest_without c.args.slot.0 s.newest)) total
            ∙ orders.newest-kept s.runs.items rs s.order.items c.last_end-end.new.order.items (length s.terms.items) c.last_end-end.result c.args.slot.0 s.newest s.kept.last c.vacate.ensures.others last;
        room = omega (arith, len, c.vacate.ensures.units, s.kept.room);
        terms_fit = omega (arith, total, c.last_end-end.ensures.within, s.kept.terms_fit);
        order_fits = omega (arith, c.last_end-end.ensures.shorter, s.kept.order_fits);
        runs_fit = omega (arith, c.vacate.ensures.slots, s.kept.runs_fit);
        terms_room = omega (arith, c.truncate.ensures.capacity, s.kept.terms_room);
        runs_room = omega (arith, c.vacate.ensures.runs_room, s.kept.runs_room);
        order_room = omega (arith, c.last_end-end.ensures.order_room, s.kept.order_room);
        vacant_room = omega (arith, c.vacate.ensures.vacant_room, s.kept.vacant_room);
      };
    }

pub returns-clause-lists : goal.returns-clause-lists
returns-clause-lists c =
    let s = c.args.self.now in
    let rs = c.vacate.new.runs.items in
    let k = c.args.slot.0 in
    let o : Ordered rs c.last_end-end.new.order.items c.last_end-end.result = subst (λ r. Ordered r c.last_end-end.new.order.items c.last_end-end.result) c.deref.ensures.value c.last_end-end.ensures.ordered in
    lists.lists-unset s.terms.items c.truncate.new.self.items s.runs.items rs k
    (lists.list-none c.truncate.new.self.items (run_at rs k) c.vacate.ensures.dead)
    (λ j n. ap (λ t. store.run_at t (seen (run_at rs j))) c.truncate.ensures.items
    ∙ settling.list-cut s.terms.items rs c.last_end-end.result j (omega (arith, c.last_end-end.ensures.within)) (o.inside j)
    ∙ ap (λ r. store.run_at s.terms.items (seen r)) (c.vacate.ensures.others j n))

pub returns-clause-spare : goal.returns-clause-spare
returns-clause-spare c =
    let s = c.args.self.now in
    let live = lists.live-run s.terms.items s.runs.items c.args.slot.0 c.requires in
    let is : c.index-run.result.now ≡ run_at s.runs.items c.args.slot.0 = get_or_read_under s.runs.items c.args.slot.0 _ c.index-run.result.now no_run c.index-run.ensures (live-below s.runs.items c.args.slot.0 live) refl in
    omega (arith, ap (λ (r : Run). r.len) is, lists.live-length s.terms.items s.runs.items c.args.slot.0 (s.kept.ordered.inside c.args.slot.0 live) c.requires)

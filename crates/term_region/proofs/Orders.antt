-- Runs in order: one more, one longer, one less.
use Rattle.std.proofs.Common.{◌≡◌, ◌≢◌, ℕ, ◌+◌, ◌<◌, ◌≤◌, suc, List, [], ◌∷◌, ◌++◌, length, take, get_or, set, refl, sym, ◌∙◌, ap, subst, true, false, nat_eq, ◌&&◌, arith, inl, inr, length-append, length-take}
use Rattle.std.proofs.lemmas.Bool.{cases_eq, cases_lt}
use Rattle.std.proofs.lemmas.Bool.Decides.{nat_tests}
use Rattle.std.proofs.lemmas.List as lists
use Rattle.term_region.specs.declared.run.Run.{Run}
use Rattle.std.specs.Prelude.{Option, Some, None, cond}
use Rattle.term_store.specs.States.{newest_without}
use Rattle.std.proofs.lemmas.Bool.{and_parts}
use Rattle.term_region.specs.Pool.{no_run, run_at, Ordered, Vacant, sum_of, one_of, ends_last, newest_last}
use Rattle.term_region.proofs.Sums.{Alike, alike, both, live-below, sum-set, sum-push, one-live, one-dead}

-- a new run behind all others
pub ordered-fresh : (rs new : List Run) (order : List ℕ) (n m : ℕ) → Ordered rs order n → (run_at rs m).live ≡ false
    → run_at new m ≡ record { live = true; start = n; len = 0; rank = length order } → ((j : ℕ) → j ≢ m → run_at new j ≡ run_at rs j)
    → m < length new → length rs ≤ length new → Ordered new (order ++ m ∷ []) n
ordered-fresh rs new order n m o vacant here others below more = record { ranked = ranked; entered = entered; slots = slots; apart = apart; inside = inside }
  where
    is : Alike (run_at new m) record { live = true; start = n; len = 0; rank = length order }
    is = alike (run_at new m) _ here

    old-live : (k : ℕ) → k ≢ m → (run_at new k).live ≡ true → (run_at rs k).live ≡ true
    old-live k n l = sym (alike _ _ (others k n)).live ∙ l

    total : length (order ++ m ∷ []) ≡ length order + 1
    total = length-append order (m ∷ [])

    ranked : (k : ℕ) → (run_at new k).live ≡ true → (run_at new k).rank < length (order ++ m ∷ [])
    ranked k l = elim (cases_eq k m) [
      | inl e ↦ subst (λ x. (run_at new x).rank < length (order ++ m ∷ [])) (sym e) (omega (arith, total, is.rank))
      | inr a ↦ omega (arith, total, (alike _ _ (others k a)).rank, o.ranked k (old-live k a l))
    ]

    entered : (k : ℕ) → (run_at new k).live ≡ true → get_or (order ++ m ∷ []) (run_at new k).rank 0 ≡ k
    entered k l = elim (cases_eq k m) [
      | inl e ↦ ap (λ x. get_or (order ++ m ∷ []) (run_at new x).rank 0) e ∙ lists.get_or_push order m 0 (run_at new m).rank (sym is.rank) ∙ sym e
      | inr a ↦ ap (λ r. get_or (order ++ m ∷ []) r 0) (alike _ _ (others k a)).rank
          ∙ lists.get_or_append_left order (m ∷ []) 0 (run_at rs k).rank (o.ranked k (old-live k a l)) ∙ o.entered k (old-live k a l)
    ]

    slots : (i : ℕ) → i < length (order ++ m ∷ []) → get_or (order ++ m ∷ []) i 0 < length new
    slots i lt = elim (cases_lt i (length order)) [
      | inl le ↦ omega (arith, lists.get_or_append_left order (m ∷ []) 0 i le, o.slots i le)
      | inr ge ↦ let e : length order ≡ i = omega (arith, total) in omega (arith, lists.get_or_push order m 0 i e)
    ]

    apart : (j k : ℕ) → (run_at new j).live ≡ true → (run_at new k).live ≡ true → (run_at new j).rank < (run_at new k).rank
        → (run_at new j).start + (run_at new j).len ≤ (run_at new k).start
    apart j k lj lk lt = elim (cases_eq j m) [
      | inl e ↦ elim (cases_eq k m) [
        | inl f ↦ absurd (omega (arith, ap (λ x. (run_at new x).rank) e, ap (λ x. (run_at new x).rank) f))
        | inr b ↦ absurd (omega (arith, ap (λ x. (run_at new x).rank) e, is.rank, (alike _ _ (others k b)).rank, o.ranked k (old-live k b lk)))
      ]
      | inr a ↦ elim (cases_eq k m) [
        | inl f ↦ omega (arith, (alike _ _ (others j a)).start, (alike _ _ (others j a)).len, o.inside j (old-live j a lj), ap (λ x. (run_at new x).start) f, is.start)
        | inr b ↦ omega (
          arith,
          (alike _ _ (others j a)).start,
          (alike _ _ (others j a)).len,
          (alike _ _ (others j a)).rank,
          (alike _ _ (others k b)).start,
          (alike _ _ (others k b)).rank,
          o.apart j k (old-live j a lj) (old-live k b lk) (omega (arith, (alike _ _ (others j a)).rank, (alike _ _ (others k b)).rank)),
        )
      ]
    ]

    inside : (k : ℕ) → (run_at new k).live ≡ true → (run_at new k).start + (run_at new k).len ≤ n
    inside k l = elim (cases_eq k m) [
      | inl e ↦ omega (arith, ap (λ x. (run_at new x).start) e, ap (λ x. (run_at new x).len) e, is.start, is.len)
      | inr a ↦ omega (arith, (alike _ _ (others k a)).start, (alike _ _ (others k a)).len, o.inside k (old-live k a l))
    ]

-- the last run has a term more
pub ordered-longer : (rs new : List Run) (order : List ℕ) (n m : ℕ) → Ordered rs order n → (run_at rs m).live ≡ true → suc (run_at rs m).rank ≡ length order
    → (run_at rs m).start + (run_at rs m).len ≡ n
    → Alike (run_at new m) (record (run_at rs m) { len = (run_at rs m).len + 1 }) → ((j : ℕ) → j ≢ m → run_at new j ≡ run_at rs j)
    → length new ≡ length rs → Ordered new order (n + 1)
ordered-longer rs new order n m o live top end is others same = record {
  ranked = λ k l. omega (arith, rank-is k, o.ranked k (live-is k l));
  entered = λ k l. ap (λ r. get_or order r 0) (rank-is k) ∙ o.entered k (live-is k l);
  slots = λ i lt. omega (arith, o.slots i lt);
  apart = apart;
  inside = inside;
}
  where
    live-is : (k : ℕ) → (run_at new k).live ≡ true → (run_at rs k).live ≡ true
    live-is k l = elim (cases_eq k m) [ inl e ↦ ap (λ x. (run_at rs x).live) e ∙ live | inr a ↦ sym (alike _ _ (others k a)).live ∙ l ]

    rank-is : (k : ℕ) → (run_at new k).rank ≡ (run_at rs k).rank
    rank-is k = elim (cases_eq k m) [ inl e ↦ ap (λ x. (run_at new x).rank) e ∙ is.rank ∙ sym (ap (λ x. (run_at rs x).rank) e) | inr a ↦ (alike _ _ (others k a)).rank ]

    start-is : (k : ℕ) → (run_at new k).start ≡ (run_at rs k).start
    start-is k = elim (cases_eq k m) [ inl e ↦ ap (λ x. (run_at new x).start) e ∙ is.start ∙ sym (ap (λ x. (run_at rs x).start) e) | inr a ↦ (alike _ _ (others k a)).start ]

    apart : (j k : ℕ) → (run_at new j).live ≡ true → (run_at new k).live ≡ true → (run_at new j).rank < (run_at new k).rank
        → (run_at new j).start + (run_at new j).len ≤ (run_at new k).start
    apart j k lj lk lt = elim (cases_eq j m) [
      | inl e ↦ absurd (omega (arith, rank-is j, rank-is k, ap (λ x. (run_at rs x).rank) e, top, o.ranked k (live-is k lk)))
      | inr a ↦ omega (
        arith,
        start-is j,
        start-is k,
        (alike _ _ (others j a)).len,
        o.apart j k (live-is j lj) (live-is k lk) (omega (arith, rank-is j, rank-is k)),
      )
    ]

    inside : (k : ℕ) → (run_at new k).live ≡ true → (run_at new k).start + (run_at new k).len ≤ n + 1
    inside k l = elim (cases_eq k m) [
      | inl e ↦ omega (arith, ap (λ x. (run_at new x).start) e, ap (λ x. (run_at new x).len) e, is.start, is.len, end)
      | inr a ↦ omega (arith, (alike _ _ (others k a)).start, (alike _ _ (others k a)).len, o.inside k (live-is k l))
    ]

-- a run less
pub ordered-vacated : (rs new : List Run) (order : List ℕ) (n m : ℕ) → Ordered rs order n → (run_at new m).live ≡ false
    → ((j : ℕ) → j ≢ m → run_at new j ≡ run_at rs j) → length new ≡ length rs → Ordered new order n
ordered-vacated rs new order n m o dead others same = record {
  ranked = λ k l. omega (arith, (old k l).rank, o.ranked k (live-is k l));
  entered = λ k l. ap (λ r. get_or order r 0) (old k l).rank ∙ o.entered k (live-is k l);
  slots = λ i lt. omega (arith, o.slots i lt);
  apart = λ j k lj lk lt. omega (arith, (old j lj).start, (old j lj).len, (old k lk).start, o.apart j k (live-is j lj) (live-is k lk) (omega (arith, (old j lj).rank, (old k lk).rank)));
  inside = λ k l. omega (arith, (old k l).start, (old k l).len, o.inside k (live-is k l));
}
  where
    old : (k : ℕ) → (run_at new k).live ≡ true → Alike (run_at new k) (run_at rs k)
    old k l = elim (cases_eq k m) [ inl e ↦ absurd (both (run_at new k).live l (ap (λ x. (run_at new x).live) e ∙ dead)) | inr a ↦ alike _ _ (others k a) ]

    live-is : (k : ℕ) → (run_at new k).live ≡ true → (run_at rs k).live ≡ true
    live-is k l = sym (old k l).live ∙ l

-- a last entry that is no run's is given up
pub ordered-popped : (rs : List Run) (order less : List ℕ) (n : ℕ) → Ordered rs order n → length less + 1 ≡ length order → ((i : ℕ) → i < length less → get_or less i 0 ≡ get_or order i 0)
    → ((k : ℕ) → (run_at rs k).live ≡ true → (run_at rs k).rank ≢ length less) → Ordered rs less n
ordered-popped rs order less n o one same void = record {
  ranked = below;
  entered = λ k l. same (run_at rs k).rank (below k l) ∙ o.entered k l;
  slots = λ i lt. omega (arith, same i lt, o.slots i (omega (arith, one)));
  apart = o.apart;
  inside = o.inside;
}
  where
    below : (k : ℕ) → (run_at rs k).live ≡ true → (run_at rs k).rank < length less
    below k l = elim (cases_lt (run_at rs k).rank (length less)) [ inl lt ↦ lt | inr ge ↦ absurd (void k l (omega (arith, one, o.ranked k l))) ]

-- all runs end here
pub ordered-ends : (rs : List Run) (order : List ℕ) (n m : ℕ) → Ordered rs order n → ((k : ℕ) → (run_at rs k).live ≡ true → (run_at rs k).start + (run_at rs k).len ≤ m) → Ordered rs order m
ordered-ends rs order n m o h = record { ranked = o.ranked; entered = o.entered; slots = o.slots; apart = o.apart; inside = h }

-- ---- vacant slots
pub vacant-taken : (rs new : List Run) (vacant less : List ℕ) (q : Run) (m : ℕ) → Vacant rs vacant → length less + 1 ≡ length vacant
    → ((i : ℕ) → i < length less → get_or less i 0 ≡ get_or vacant i 0) → m ≡ get_or vacant (length less) 0
    → q.live ≡ true → new ≡ set rs m q → ((j : ℕ) → j ≢ m → run_at new j ≡ run_at rs j) → length new ≡ length rs → Vacant new less
vacant-taken rs new vacant less q m v one same is live made others length_same = record {
  dead = λ i lt. (alike _ _ (others (get_or less i 0) (apart i lt))).live ∙ ap (λ x. (run_at rs x).live) (same i lt) ∙ v.dead i (omega (arith, one));
  slots = λ i lt. omega (arith, same i lt, v.slots i (omega (arith, one)));
  once = λ i j a b e. v.once i j (omega (arith, one)) (omega (arith, one)) (sym (same i a) ∙ e ∙ same j b);
  count = omega (
    arith,
    one,
    v.count,
    ap (sum_of one_of) made,
    sum-set one_of rs m q below,
    one-live q live,
    one-dead (run_at rs m) (ap (λ x. (run_at rs x).live) is ∙ v.dead (length less) (omega (arith, one))),
  );
}
  where
    below : m < length rs
    below = omega (arith, is, v.slots (length less) (omega (arith, one)))

    apart : (i : ℕ) → i < length less → get_or less i 0 ≢ m
    apart i lt e = absurd (omega (arith, v.once i (length less) (omega (arith, one)) (omega (arith, one)) (sym (same i lt) ∙ e ∙ is)))

pub vacant-none : (rs : List Run) (q : Run) → Vacant rs [] → q.live ≡ true → Vacant (rs ++ q ∷ []) []
vacant-none rs q v live = record {
  dead = λ i lt. absurd (omega arith);
  slots = λ i lt. absurd (omega arith);
  once = λ i j a b e. absurd (omega arith);
  count = omega (arith, v.count, length-append rs (q ∷ []), sum-push one_of rs q, one-live q live);
}

pub vacant-given : (rs new : List Run) (vacant : List ℕ) (q : Run) (m : ℕ) → Vacant rs vacant → (run_at rs m).live ≡ true → q.live ≡ false → new ≡ set rs m q
    → run_at new m ≡ q → ((j : ℕ) → j ≢ m → run_at new j ≡ run_at rs j) → length new ≡ length rs → Vacant new (vacant ++ m ∷ [])
vacant-given rs new vacant q m v live dead made here others length_same = record {
  dead = λ i lt. elim (cases_lt i (length vacant)) [
    | inl l ↦ ap (λ x. (run_at new x).live) (old i l) ∙ (alike _ _ (others (get_or vacant i 0) (apart i l))).live ∙ v.dead i l
    | inr g ↦ ap (λ x. (run_at new x).live) (last i g lt) ∙ (alike _ _ here).live ∙ dead
  ];
  slots = λ i lt. elim (cases_lt i (length vacant)) [
    | inl l ↦ omega (arith, old i l, v.slots i l)
    | inr g ↦ omega (arith, last i g lt, below)
  ];
  once = λ i j a b e. elim (cases_lt i (length vacant)) [
    | inl l ↦ elim (cases_lt j (length vacant)) [
      | inl k ↦ v.once i j l k (sym (old i l) ∙ e ∙ old j k)
      | inr g ↦ absurd (apart i l (sym (old i l) ∙ e ∙ last j g b))
    ]
    | inr g ↦ elim (cases_lt j (length vacant)) [
      | inl k ↦ absurd (apart j k (sym (old j k) ∙ sym e ∙ last i g a))
      | inr h ↦ omega (arith, total)
    ]
  ];
  count = omega (arith, v.count, total, length_same, ap (sum_of one_of) made, sum-set one_of rs m q below, one-dead q dead, one-live (run_at rs m) live);
}
  where
    below : m < length rs
    below = live-below rs m live

    total : length (vacant ++ m ∷ []) ≡ length vacant + 1
    total = length-append vacant (m ∷ [])

    old : (i : ℕ) → i < length vacant → get_or (vacant ++ m ∷ []) i 0 ≡ get_or vacant i 0
    old i lt = lists.get_or_append_left vacant (m ∷ []) 0 i lt

    last : (i : ℕ) → length vacant ≤ i → i < length (vacant ++ m ∷ []) → get_or (vacant ++ m ∷ []) i 0 ≡ m
    last i g lt = lists.get_or_push vacant m 0 i (omega (arith, total))

    apart : (i : ℕ) → i < length vacant → get_or vacant i 0 ≢ m
    apart i lt e = absurd (both (run_at rs m).live live (sym (ap (λ x. (run_at rs x).live) e) ∙ v.dead i lt))

pub vacant-same : (rs new : List Run) (vacant : List ℕ) → Vacant rs vacant → ((k : ℕ) → (run_at new k).live ≡ (run_at rs k).live) → length new ≡ length rs
    → sum_of one_of new ≡ sum_of one_of rs → Vacant new vacant
vacant-same rs new vacant v lives same count = record {
  dead = λ i lt. lives (get_or vacant i 0) ∙ v.dead i lt;
  slots = λ i lt. omega (arith, same, v.slots i lt);
  once = v.once;
  count = omega (arith, same, count, v.count);
}

-- the same, where a list of slots is taken apart or put together
pub vacant-last : (rs : List Run) (vacant less : List ℕ) (q : Run) (m : ℕ) → Vacant rs vacant → vacant ≡ less ++ m ∷ [] → q.live ≡ true → Vacant (set rs m q) less
vacant-last rs vacant less q m v e live =
    vacant-taken rs (set rs m q) (less ++ m ∷ []) less q m (subst (Vacant rs) e v) (sym (length-append less (m ∷ []))) (λ i lt. sym (lists.get_or_append_left less (m ∷ []) 0 i lt))
    (sym (lists.get_or_push less m 0 (length less) refl)) live refl (λ j n. lists.get_or-set_other rs m j q no_run n) (lists.length-set rs m q)

pub vacant-last-below : (rs : List Run) (vacant less : List ℕ) (m : ℕ) → Vacant rs vacant → vacant ≡ less ++ m ∷ [] → m < length rs
vacant-last-below rs vacant less m v e =
    let w : Vacant rs (less ++ m ∷ []) = subst (Vacant rs) e v in
    omega (arith, w.slots (length less) (omega (arith, length-append less (m ∷ []))), lists.get_or_push less m 0 (length less) refl)

pub vacant-last-dead : (rs : List Run) (vacant less : List ℕ) (m : ℕ) → Vacant rs vacant → vacant ≡ less ++ m ∷ [] → (run_at rs m).live ≡ false
vacant-last-dead rs vacant less m v e =
    let w : Vacant rs (less ++ m ∷ []) = subst (Vacant rs) e v in
    ap (λ x. (run_at rs x).live) (sym (lists.get_or_push less m 0 (length less) refl)) ∙ w.dead (length less) (omega (arith, length-append less (m ∷ [])))

pub vacant-more : (rs new : List Run) (vacant less : List ℕ) (q : Run) → Vacant rs vacant → length vacant ≡ 0 → length less ≡ 0 → q.live ≡ true → new ≡ rs ++ q ∷ [] → Vacant new less
vacant-more rs new vacant less q v none still live made = record {
  dead = λ i lt. absurd (omega (arith, still));
  slots = λ i lt. absurd (omega (arith, still));
  once = λ i j a b e. absurd (omega (arith, still));
  count = omega (arith, ap length made, ap (sum_of one_of) made, none, still, v.count, length-append rs (q ∷ []), sum-push one_of rs q, one-live q live);
}

pub vacant-back : (rs : List Run) (vacant more : List ℕ) (q : Run) (m : ℕ) → Vacant rs vacant → (run_at rs m).live ≡ true → q.live ≡ false → more ≡ vacant ++ m ∷ [] → Vacant (set rs m q) more
vacant-back rs vacant more q m v live dead e =
    subst (Vacant (set rs m q)) (sym e) (vacant-given rs (set rs m q) vacant q m v live dead refl (lists.get_or-set_same rs m q no_run (live-below rs m live))
    (λ j n. lists.get_or-set_other rs m j q no_run n) (lists.length-set rs m q))

-- no live run has the last entry, where that entry's run has not
pub void-top : (rs : List Run) (order : List ℕ) (n i : ℕ) (slot : ℕ) (r : Run) → Ordered rs order n → i < length order → slot ≡ get_or order i slot → r ≡ get_or rs slot r
    → (r.live ≡ true → r.rank ≡ i → ⊥) → (k : ℕ) → (run_at rs k).live ≡ true → (run_at rs k).rank ≢ i
void-top rs order n i slot r o lt entry is void k l e =
    let at : slot ≡ k = lists.get_or_read order i slot lt entry 0 ∙ ap (λ x. get_or order x 0) (sym e) ∙ o.entered k l in
    let below : slot < length rs = omega (arith, at, live-below rs k l) in
    let run : r ≡ run_at rs k = lists.get_or_read rs slot r below is no_run ∙ ap (run_at rs) at in
    void (ap (λ (x : Run). x.live) run ∙ l) (ap (λ (x : Run). x.rank) run ∙ e)

-- the newest list ends last, where another is given up
pub newest-kept : (rs new : List Run) (order less : List ℕ) (n m slot : ℕ) (newest : Option ℕ) → newest_last rs (length order) n newest ≡ true
    → ((j : ℕ) → j ≢ slot → run_at new j ≡ run_at rs j) → ((k : ℕ) → ends_last new (length order) n k ≡ true → ends_last new (length less) m k ≡ true)
    → newest_last new (length less) m (newest_without slot newest) ≡ true
newest-kept rs new order less n m slot None e others cut = refl
newest-kept rs new order less n m slot (Some o) e others cut =
    elim (nat_eq slot o) as (λ b. nat_eq slot o ≡ b → newest_last new (length less) m (cond b None (Some o)) ≡ true) [
      | true ↦ λ q. refl
      | false ↦ λ q. cut o (ap (λ (r : Run). r.live && (nat_eq (suc r.rank) (length order) && nat_eq (r.start + r.len) n)) (others o (apart q)) ∙ e)
    ] refl
  where
    apart : nat_eq slot o ≡ false → o ≢ slot
    apart q same = absurd (let h : nat_eq slot o ≡ true = grind (arith, nat_tests) in both (nat_eq slot o) h q)

-- ---- a run that is given up
-- no other run has its rank
pub alone : (rs new : List Run) (order : List ℕ) (n m : ℕ) → Ordered rs order n → (run_at rs m).live ≡ true → (run_at new m).live ≡ false
    → ((j : ℕ) → j ≢ m → run_at new j ≡ run_at rs j) → (k : ℕ) → (run_at new k).live ≡ true → (run_at new k).rank ≢ (run_at rs m).rank
alone rs new order n m o live dead others k l e = elim (cases_eq k m) [
  | inl q ↦ both (run_at new k).live l (ap (λ x. (run_at new x).live) q ∙ dead)
  | inr a ↦
      let was = alike _ _ (others k a) in
      a (sym (o.entered k (sym was.live ∙ l)) ∙ ap (λ r. get_or order r 0) (sym was.rank ∙ e) ∙ o.entered m live)
]

-- those with a lesser rank end where it began
pub before : (rs new : List Run) (order : List ℕ) (n m : ℕ) → Ordered rs order n → (run_at rs m).live ≡ true → (run_at new m).live ≡ false
    → ((j : ℕ) → j ≢ m → run_at new j ≡ run_at rs j) → (k : ℕ) → (run_at new k).live ≡ true → (run_at new k).rank < (run_at rs m).rank
    → (run_at new k).start + (run_at new k).len ≤ (run_at rs m).start
before rs new order n m o live dead others k l lt = elim (cases_eq k m) [
  | inl q ↦ absurd (both (run_at new k).live l (ap (λ x. (run_at new x).live) q ∙ dead))
  | inr a ↦
      let was = alike _ _ (others k a) in
      let ends = o.apart k m (sym was.live ∙ l) live (omega (arith, was.rank, lt)) in
      omega (arith, was.start, was.len, ends)
]

-- its entry is cut off, where it was the last
pub cut-order : (rs : List Run) (order less : List ℕ) (n rank start : ℕ) → Ordered rs order n → length order ≡ rank + 1 → less ≡ take rank order
    → ((k : ℕ) → (run_at rs k).live ≡ true → (run_at rs k).rank ≢ rank)
    → ((k : ℕ) → (run_at rs k).live ≡ true → (run_at rs k).rank < rank → (run_at rs k).start + (run_at rs k).len ≤ start) → Ordered rs less start
cut-order rs order less n rank start o top made none ends =
    ordered-ends rs less n start kept (λ k l. ends k l (omega (arith, kept.ranked k l, total)))
  where
    total : length less ≡ rank
    total = ap length made ∙ simp (length-take) (omega (arith, top))

    kept : Ordered rs less n
    kept = ordered-popped rs order less n o (omega (arith, total, top))
        (λ i lt. ap (λ l. get_or l i 0) made ∙ lists.get_or-take rank order i 0 (omega (arith, lt, total)))
        (λ k l e. none k l (e ∙ total))

-- where it was the last, no other ends last
pub none-last : (rs : List Run) (order less : List ℕ) (n m rank : ℕ) → length order ≡ rank + 1
    → ((k : ℕ) → (run_at rs k).live ≡ true → (run_at rs k).rank ≢ rank)
    → (k : ℕ) → ends_last rs (length order) n k ≡ true → ends_last rs (length less) m k ≡ true
none-last rs order less n m rank top none k h =
    let parts = and_parts (run_at rs k).live (nat_eq (suc (run_at rs k).rank) (length order) && nat_eq ((run_at rs k).start + (run_at rs k).len) n) h in
    let last = eq-of (suc (run_at rs k).rank) (length order) (and_parts (nat_eq (suc (run_at rs k).rank) (length order)) (nat_eq ((run_at rs k).start + (run_at rs k).len) n) parts.1).0 in
    absurd (none k parts.0 (omega (arith, last, top)))
  where
    eq-of : (a b : ℕ) → nat_eq a b ≡ true → a ≡ b
    eq-of a b e = grind (arith, nat_tests)

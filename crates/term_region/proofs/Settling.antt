-- Moving the live runs down, one after the other.
use Rattle.std.proofs.Common.{◌≡◌, ◌≢◌, ℕ, ◌+◌, ◌-◌, ◌<◌, ◌≤◌, suc, List, [], ◌∷◌, length, take, drop, get_or, set, refl, sym, ◌∙◌, ap, subst, Bool, true, false, arith, inl, inr, length-take}
use Rattle.std.proofs.lemmas.Bool.{cases_eq, cases_lt}
use Rattle.std.proofs.lemmas.List as lists
use Rattle.std.specs.List.{CopiedTo, SameBelow, SameFrom}
use Rattle.poly_model.specs.declared.term.Term.{Term}
use Rattle.term_region.specs.declared.run.Run.{Run}
use Rattle.term_region.specs.Pool.{no_run, run_at, list_of, sum_of, one_of, units_of, units_before, Ordered, Settled, IsTop, Stays}
use Rattle.term_region.proofs.Sums.{Alike, alike, live-below, sum-set, sum-one, sum-same, one-live, units-live, before-in, before-out, before-dead}
use Rattle.term_region.proofs.Lists.{same-list, run-same}

-- ---- before the first entry
pub settled-none : (rs : List Run) (order : List ℕ) (n : ℕ) → Ordered rs order n → Settled rs order n 0 0 0
settled-none rs order n o = record {
  ordered = o;
  behind = λ k l le. omega arith;
  moved = λ k l lt. absurd (omega arith);
  ended = λ k l lt. absurd (omega arith);
  few = omega arith;
  within = omega arith;
  sum = sym (sum-same (units_before 0) (λ _. 0) rs none ∙ zeros rs);
}
  where
    none : (k : ℕ) → units_before 0 (run_at rs k) ≡ 0
    none k = by (run_at rs k).live refl
      where
        by : (b : Bool) → (run_at rs k).live ≡ b → units_before 0 (run_at rs k) ≡ 0
        by false e = before-dead 0 (run_at rs k) e
        by true e = before-out 0 (run_at rs k) e (omega arith)

    zeros : (rs : List Run) → sum_of (λ _. 0) rs ≡ 0 + 0
    zeros [] = omega arith
    zeros (r ∷ rs) = omega (arith, zeros rs)

-- ---- an entry that is no run's
pub settled-void : (rs : List Run) (order : List ℕ) (n i kept end : ℕ) → Settled rs order n i kept end
    → ((k : ℕ) → (run_at rs k).live ≡ true → (run_at rs k).rank ≢ i) → Settled rs order n (suc i) kept end
settled-void rs order n i kept end s void = record {
  ordered = s.ordered;
  behind = λ k l le. s.behind k l (omega arith);
  moved = λ k l lt. s.moved k l (before k l lt);
  ended = λ k l lt. s.ended k l (before k l lt);
  few = omega (arith, s.few);
  within = s.within;
  sum = s.sum ∙ sum-same (units_before i) (units_before (suc i)) rs same;
}
  where
    before : (k : ℕ) → (run_at rs k).live ≡ true → (run_at rs k).rank < suc i → (run_at rs k).rank < i
    before k l lt = elim (cases_lt (run_at rs k).rank i) [ inl h ↦ h | inr g ↦ absurd (void k l (omega arith)) ]

    same : (k : ℕ) → units_before i (run_at rs k) ≡ units_before (suc i) (run_at rs k)
    same k = by (run_at rs k).live refl
      where
        by : (b : Bool) → (run_at rs k).live ≡ b → units_before i (run_at rs k) ≡ units_before (suc i) (run_at rs k)
        by false e = before-dead i (run_at rs k) e ∙ sym (before-dead (suc i) (run_at rs k) e)
        by true e = elim (cases_lt (run_at rs k).rank i) [
          | inl lt ↦ before-in i (run_at rs k) e lt ∙ sym (before-in (suc i) (run_at rs k) e (omega arith))
          | inr ge ↦ before-out i (run_at rs k) e ge ∙ sym (before-out (suc i) (run_at rs k) e (elim (cases_eq (run_at rs k).rank i) [ inl h ↦ absurd (void k e h) | inr a ↦ omega (arith, a) ]))
        ]

pub top-void : (rs : List Run) (k i kept end m : ℕ) → (run_at rs k).rank ≢ i → i < m → IsTop rs k i kept end m → IsTop rs k (suc i) kept end m
top-void rs k i kept end m apart lt t = record {
  waits = λ le. t.waits (omega arith);
  kept_last = λ h. t.kept_last (before h);
  ends_there = λ h. t.ends_there (before h);
  done = λ h. absurd (omega (arith, t.done (before h)));
}
  where
    before : (run_at rs k).rank < suc i → (run_at rs k).rank < i
    before h = elim (cases_lt (run_at rs k).rank i) [ inl l ↦ l | inr g ↦ absurd (apart (omega arith)) ]

-- ---- a run that moves down
pub settled-moved : (rs new : List Run) (order entries : List ℕ) (n i kept end m : ℕ) → Settled rs order n i kept end → i < length order → get_or order i 0 ≡ m
    → (run_at rs m).live ≡ true → (run_at rs m).rank ≡ i
    → new ≡ set rs m record { live = true; start = end; len = (run_at rs m).len; rank = kept } → entries ≡ set order kept m
    → Settled new entries n (suc i) (kept + 1) (end + (run_at rs m).len)
settled-moved rs new order entries n i kept end m s below is live rank made entries_made = record {
  ordered = record { ranked = ranked; entered = entered; slots = slots; apart = apart; inside = inside };
  behind = behind;
  moved = moved;
  ended = ended;
  few = omega (arith, s.few);
  within = omega (arith, end-start, s.ordered.inside m live);
  sum = sum;
}
  where
    q : Run
    q = record { live = true; start = end; len = (run_at rs m).len; rank = kept }

    o : Ordered rs order n
    o = s.ordered

    slot-below : m < length rs
    slot-below = live-below rs m live

    here : Alike (run_at new m) q
    here = alike _ _ (ap (λ l. run_at l m) made ∙ lists.get_or-set_same rs m q no_run slot-below)

    other : (k : ℕ) → k ≢ m → Alike (run_at new k) (run_at rs k)
    other k a = alike _ _ (ap (λ l. run_at l k) made ∙ lists.get_or-set_other rs m k q no_run a)

    at-m : (k : ℕ) → k ≡ m → Alike (run_at new k) q
    at-m k e = subst (λ x. Alike (run_at new x) q) (sym e) here

    old-live : (k : ℕ) → k ≢ m → (run_at new k).live ≡ true → (run_at rs k).live ≡ true
    old-live k a l = sym (other k a).live ∙ l

    -- another live run has another rank
    rank-apart : (k : ℕ) → k ≢ m → (run_at rs k).live ≡ true → (run_at rs k).rank ≢ i
    rank-apart k a l e = a (sym (o.entered k l) ∙ ap (λ r. get_or order r 0) e ∙ is)

    end-start : end ≤ (run_at rs m).start
    end-start = s.behind m live (omega (arith, rank))

    total : length entries ≡ length order
    total = ap length entries_made ∙ lists.length-set order kept m

    ranked : (k : ℕ) → (run_at new k).live ≡ true → (run_at new k).rank < length entries
    ranked k l = elim (cases_eq k m) [
      | inl e ↦ omega (arith, (at-m k e).rank, total, s.few)
      | inr a ↦ omega (arith, (other k a).rank, total, o.ranked k (old-live k a l))
    ]

    entered : (k : ℕ) → (run_at new k).live ≡ true → get_or entries (run_at new k).rank 0 ≡ k
    entered k l = elim (cases_eq k m) [
      | inl e ↦ (λ j. get_or (entries_made j) ((at-m k e).rank j) 0) ∙ lists.get_or-set_same order kept m 0 (omega (arith, s.few)) ∙ sym e
      | inr a ↦ (λ j. get_or (entries_made j) ((other k a).rank j) 0)
          ∙ lists.get_or-set_other order kept (run_at rs k).rank m 0 (rank-not k a (old-live k a l)) ∙ o.entered k (old-live k a l)
    ]
      where
        rank-not : (k : ℕ) → k ≢ m → (run_at rs k).live ≡ true → (run_at rs k).rank ≢ kept
        rank-not k a l e = elim (cases_lt (run_at rs k).rank i) [
          | inl lt ↦ absurd (omega (arith, s.moved k l lt, e))
          | inr ge ↦ rank-apart k a l (omega (arith, s.few, e))
        ]

    slots : (j : ℕ) → j < length entries → get_or entries j 0 < length new
    slots j lt =
        let grown : length new ≡ length rs = ap length made ∙ lists.length-set rs m q in
        elim (cases_eq j kept) [
          | inl e ↦ omega (arith, grown, (λ x. get_or (entries_made x) (e x) 0) ∙ lists.get_or-set_same order kept m 0 (omega (arith, s.few)), slot-below)
          | inr a ↦ omega (arith, grown, ap (λ l. get_or l j 0) entries_made ∙ lists.get_or-set_other order kept j m 0 a, o.slots j (omega (arith, total)))
        ]

    apart : (j k : ℕ) → (run_at new j).live ≡ true → (run_at new k).live ≡ true → (run_at new j).rank < (run_at new k).rank
        → (run_at new j).start + (run_at new j).len ≤ (run_at new k).start
    apart j k lj lk lt = elim (cases_eq j m) [
      | inl e ↦ elim (cases_eq k m) [
        | inl f ↦ absurd (omega (arith, (at-m j e).rank, (at-m k f).rank))
        | inr b ↦ elim (cases_lt (run_at rs k).rank i) [
          | inl h ↦ absurd (omega (arith, (at-m j e).rank, (other k b).rank, s.moved k (old-live k b lk) h))
          | inr g ↦ omega (
            arith,
            (at-m j e).start,
            (at-m j e).len,
            (other k b).start,
            end-start,
            o.apart m k live (old-live k b lk) (omega (arith, rank, rank-apart k b (old-live k b lk))),
          )
        ]
      ]
      | inr a ↦ elim (cases_eq k m) [
        | inl f ↦ omega (
          arith,
          (other j a).start,
          (other j a).len,
          (at-m k f).start,
          s.ended j (old-live j a lj) (omega (arith, (other j a).rank, (at-m k f).rank, s.few)),
        )
        | inr b ↦ omega (
          arith,
          (other j a).start,
          (other j a).len,
          (other k b).start,
          o.apart j k (old-live j a lj) (old-live k b lk) (omega (arith, (other j a).rank, (other k b).rank)),
        )
      ]
    ]

    inside : (k : ℕ) → (run_at new k).live ≡ true → (run_at new k).start + (run_at new k).len ≤ n
    inside k l = elim (cases_eq k m) [
      | inl e ↦ omega (arith, (at-m k e).start, (at-m k e).len, end-start, o.inside m live)
      | inr a ↦ omega (arith, (other k a).start, (other k a).len, o.inside k (old-live k a l))
    ]

    behind : (k : ℕ) → (run_at new k).live ≡ true → suc i ≤ (run_at new k).rank → end + (run_at rs m).len ≤ (run_at new k).start
    behind k l le = elim (cases_eq k m) [
      | inl e ↦ absurd (omega (arith, (at-m k e).rank, s.few))
      | inr a ↦ omega (arith, (other k a).start, (other k a).rank, end-start, o.apart m k live (old-live k a l) (omega (arith, rank, (other k a).rank)))
    ]

    moved : (k : ℕ) → (run_at new k).live ≡ true → (run_at new k).rank < suc i → (run_at new k).rank < kept + 1
    moved k l lt = elim (cases_eq k m) [
      | inl e ↦ omega (arith, (at-m k e).rank)
      | inr a ↦ omega (arith, (other k a).rank, s.moved k (old-live k a l) (omega (arith, (other k a).rank, rank-apart k a (old-live k a l))))
    ]

    ended : (k : ℕ) → (run_at new k).live ≡ true → (run_at new k).rank < suc i → (run_at new k).start + (run_at new k).len ≤ end + (run_at rs m).len
    ended k l lt = elim (cases_eq k m) [
      | inl e ↦ omega (arith, (at-m k e).start, (at-m k e).len)
      | inr a ↦ omega (arith, (other k a).start, (other k a).len, s.ended k (old-live k a l) (omega (arith, (other k a).rank, rank-apart k a (old-live k a l))))
    ]

    sum : end + (run_at rs m).len + (kept + 1) ≡ sum_of (units_before (suc i)) new
    sum =
        let p = run_at rs m in
        let one : sum_of (units_before (suc i)) rs ≡ sum_of (units_before i) rs + (p.len + 1) =
        sum-one (units_before (suc i)) (units_before i) rs m (p.len + 1) slot-below
        (before-in (suc i) p live (omega (arith, rank)) ∙ (let e : p.len + 1 ≡ 0 + (p.len + 1) = omega arith in e) ∙ ap (λ x. x + (p.len + 1)) (sym (before-out i p live (omega (arith, rank))))) same in
        omega (
          arith,
          s.sum,
          one,
          ap (sum_of (units_before (suc i))) made,
          sum-set (units_before (suc i)) rs m q slot-below,
          before-in (suc i) p live (omega (arith, rank)),
          before-in (suc i) q refl (omega (arith, s.few)),
        )
      where
        same : (k : ℕ) → k ≢ m → units_before (suc i) (run_at rs k) ≡ units_before i (run_at rs k)
        same k a = by (run_at rs k).live refl
          where
            by : (b : Bool) → (run_at rs k).live ≡ b → units_before (suc i) (run_at rs k) ≡ units_before i (run_at rs k)
            by false e = before-dead (suc i) (run_at rs k) e ∙ sym (before-dead i (run_at rs k) e)
            by true e = elim (cases_lt (run_at rs k).rank i) [
              | inl lt ↦ before-in (suc i) (run_at rs k) e (omega arith) ∙ sym (before-in i (run_at rs k) e lt)
              | inr ge ↦ before-out (suc i) (run_at rs k) e (omega (arith, rank-apart k a e)) ∙ sym (before-out i (run_at rs k) e ge)
            ]

pub top-moved : (rs new : List Run) (order : List ℕ) (n i kept end m k : ℕ) → Settled rs order n i kept end → i < length order → get_or order i 0 ≡ m
    → (run_at rs m).live ≡ true → (run_at rs m).rank ≡ i → new ≡ set rs m record { live = true; start = end; len = (run_at rs m).len; rank = kept }
    → (run_at rs k).live ≡ true → IsTop rs k i kept end (length order) → IsTop new k (suc i) (kept + 1) (end + (run_at rs m).len) (length order)
top-moved rs new order n i kept end m k s below is live rank made live_k t = elim (cases_eq k m) [
  | inl e ↦
      let at = at-m e in
      record {
        waits = λ le. absurd (omega (arith, at.rank, s.few));
        kept_last = λ h. omega (arith, at.rank);
        ends_there = λ h. omega (arith, at.start, at.len);
        done = λ h. omega (arith, t.waits (omega (arith, ap (λ x. (run_at rs x).rank) e, rank)), ap (λ x. (run_at rs x).rank) e, rank);
      }
  | inr a ↦
      let at = other a in
      record {
        waits = λ le. omega (arith, at.rank, t.waits (omega (arith, at.rank)));
        kept_last = λ h. absurd (omega (arith, t.done (before a (omega (arith, at.rank)))));
        ends_there = λ h. absurd (omega (arith, t.done (before a (omega (arith, at.rank)))));
        done = λ h. absurd (omega (arith, t.done (before a (omega (arith, at.rank)))));
      }
]
  where
    q : Run
    q = record { live = true; start = end; len = (run_at rs m).len; rank = kept }

    at-m : k ≡ m → Alike (run_at new k) q
    at-m e = alike _ _ ((λ j. run_at (made j) (e j)) ∙ lists.get_or-set_same rs m q no_run (live-below rs m live))

    other : k ≢ m → Alike (run_at new k) (run_at rs k)
    other a = alike _ _ (ap (λ l. run_at l k) made ∙ lists.get_or-set_other rs m k q no_run a)

    before : k ≢ m → (run_at rs k).rank < suc i → (run_at rs k).rank < i
    before a h = elim (cases_lt (run_at rs k).rank i) [
      | inl l ↦ l
      | inr g ↦ absurd (a (sym (s.ordered.entered k live_k) ∙ ap (λ r. get_or order r 0) (let e : (run_at rs k).rank ≡ i = omega arith in e) ∙ is))
    ]

-- the lists stay
pub stays-moved : (terms new_terms : List Term) (rs new : List Run) (order : List ℕ) (i kept end m : ℕ) → Settled rs order (length terms) i kept end → get_or order i 0 ≡ m
    → (run_at rs m).live ≡ true → (run_at rs m).rank ≡ i → new ≡ set rs m record { live = true; start = end; len = (run_at rs m).len; rank = kept }
    → length new_terms ≡ length terms
    → CopiedTo terms new_terms (run_at rs m).start end (run_at rs m).len → SameBelow terms new_terms end → SameFrom terms new_terms (end + (run_at rs m).len)
    → Stays terms rs new_terms new
stays-moved terms new_terms rs new order i kept end m s is live rank made same_length copied below from = record {
  lists = list;
  lives = λ k. elim (cases_eq k m) [
    | inl e ↦ (at-m k e).live ∙ sym (ap (λ x. (run_at rs x).live) e ∙ live)
    | inr a ↦ (other k a).live
  ];
  same_slots = ap length made ∙ lists.length-set rs m q;
  same_units = omega (arith, ap (sum_of units_of) made, sum-set units_of rs m q slot-below, units-live q refl, units-live (run_at rs m) live);
  same_count = omega (arith, ap (sum_of one_of) made, sum-set one_of rs m q slot-below, one-live q refl, one-live (run_at rs m) live);
}
  where
    q : Run
    q = record { live = true; start = end; len = (run_at rs m).len; rank = kept }

    o : Ordered rs order (length terms)
    o = s.ordered

    slot-below : m < length rs
    slot-below = live-below rs m live

    at-m : (k : ℕ) → k ≡ m → Alike (run_at new k) q
    at-m k e = alike _ _ ((λ j. run_at (made j) (e j)) ∙ lists.get_or-set_same rs m q no_run slot-below)

    other : (k : ℕ) → k ≢ m → Alike (run_at new k) (run_at rs k)
    other k a = alike _ _ (ap (λ l. run_at l k) made ∙ lists.get_or-set_other rs m k q no_run a)

    end-start : end ≤ (run_at rs m).start
    end-start = s.behind m live (omega (arith, rank))

    rank-apart : (k : ℕ) → k ≢ m → (run_at rs k).live ≡ true → (run_at rs k).rank ≢ i
    rank-apart k a l e = a (sym (o.entered k l) ∙ ap (λ r. get_or order r 0) e ∙ is)

    list : (k : ℕ) → list_of new_terms new k ≡ list_of terms rs k
    list k = elim (cases_eq k m) [
      | inl e ↦ same-list new_terms terms (run_at new k) (run_at rs k) ((at-m k e).live ∙ sym (ap (λ x. (run_at rs x).live) e ∙ live)) (λ l. here k e)
      | inr a ↦ same-list new_terms terms (run_at new k) (run_at rs k) (other k a).live (λ l. there k a l)
    ]
      where
        here : (k : ℕ) → k ≡ m → take (run_at new k).len (drop (run_at new k).start new_terms) ≡ take (run_at rs k).len (drop (run_at rs k).start terms)
        here k e =
            (λ j. take ((at-m k e).len j) (drop ((at-m k e).start j) new_terms))
            ∙ run-same new_terms terms end (run_at rs m).start (run_at rs m).len (omega (arith, same_length, end-start, o.inside m live)) (o.inside m live)
            (λ x d lt. copied (end + x) d (omega arith) (omega arith) ∙ ap (λ y. get_or terms y d) (let h : (run_at rs m).start + (end + x - end) ≡ (run_at rs m).start + x = omega arith in h))
            ∙ (λ j. take (run_at rs (sym e j)).len (drop (run_at rs (sym e j)).start terms))

        there : (k : ℕ) → k ≢ m → (run_at rs k).live ≡ true → take (run_at new k).len (drop (run_at new k).start new_terms) ≡ take (run_at rs k).len (drop (run_at rs k).start terms)
        there k a l =
            (λ j. take ((other k a).len j) (drop ((other k a).start j) new_terms))
            ∙ run-same new_terms terms (run_at rs k).start (run_at rs k).start (run_at rs k).len (omega (arith, same_length, o.inside k l)) (o.inside k l)
            (λ x d lt. elim (cases_lt (run_at rs k).rank i) [
              | inl h ↦ below ((run_at rs k).start + x) d (omega (arith, s.ended k l h))
              | inr g ↦ from ((run_at rs k).start + x) d (omega (arith, end-start, o.apart m k live l (omega (arith, rank, rank-apart k a l))))
            ])

pub stays-same : (terms : List Term) (rs : List Run) → Stays terms rs terms rs
stays-same terms rs = record { lists = λ k. refl; lives = λ k. refl; same_slots = refl; same_units = refl; same_count = refl }

pub stays-then : (a b c : List Term) (ra rb rc : List Run) → Stays a ra b rb → Stays b rb c rc → Stays a ra c rc
stays-then a b c ra rb rc s t = record {
  lists = λ k. t.lists k ∙ s.lists k;
  lives = λ k. t.lives k ∙ s.lives k;
  same_slots = t.same_slots ∙ s.same_slots;
  same_units = t.same_units ∙ s.same_units;
  same_count = t.same_count ∙ s.same_count;
}

-- ---- as the code has it: the run that was read, in place of the run of the slot
pub read-slot : (rs : List Run) (order : List ℕ) (n i kept end slot : ℕ) (r : Run) → Settled rs order n i kept end → i < length order → slot ≡ get_or order i slot
    → r ≡ get_or rs slot r → (get_or order i 0 ≡ slot) × (r ≡ run_at rs slot)
read-slot rs order n i kept end slot r s lt entry is =
    let at : slot ≡ get_or order i 0 = lists.get_or_read order i slot lt entry 0 in
    (sym at, lists.get_or_read rs slot r (omega (arith, at, s.ordered.slots i lt)) is no_run)

pub done-moved : (rs : List Run) (order : List ℕ) (n m i kept end slot : ℕ) (r : Run) → Settled rs order n i kept end → i < length order → slot ≡ get_or order i slot
    → r ≡ get_or rs slot r → r.live ≡ true → r.rank ≡ i → m ≡ n
    → Settled (set rs slot record { live = true; start = end; len = r.len; rank = kept }) (set order kept slot) m (suc i) (kept + 1) (end + r.len)
done-moved rs order n m i kept end slot r s lt entry is live rank same =
    let at = read-slot rs order n i kept end slot r s lt entry is in
    let p = run_at rs slot in
    subst (λ (x : Run). Settled (set rs slot record { live = true; start = end; len = x.len; rank = kept }) (set order kept slot) m (suc i) (kept + 1) (end + x.len)) (sym at.1)
    (subst (λ t. Settled (set rs slot record { live = true; start = end; len = p.len; rank = kept }) (set order kept slot) t (suc i) (kept + 1) (end + p.len)) (sym same)
    (settled-moved rs _ order _ n i kept end slot s lt at.0 (sym (ap (λ (x : Run). x.live) at.1) ∙ live) (sym (ap (λ (x : Run). x.rank) at.1) ∙ rank) refl refl))

pub done-stays : (terms new_terms : List Term) (rs : List Run) (order : List ℕ) (i kept end slot : ℕ) (r : Run) → Settled rs order (length terms) i kept end → i < length order
    → slot ≡ get_or order i slot → r ≡ get_or rs slot r → r.live ≡ true → r.rank ≡ i → length new_terms ≡ length terms
    → CopiedTo terms new_terms r.start end r.len → SameBelow terms new_terms end → SameFrom terms new_terms (end + r.len)
    → Stays terms rs new_terms (set rs slot record { live = true; start = end; len = r.len; rank = kept })
done-stays terms new_terms rs order i kept end slot r s lt entry is live rank same copied below from =
    let at = read-slot rs order (length terms) i kept end slot r s lt entry is in
    subst (λ (x : Run). CopiedTo terms new_terms x.start end x.len → SameFrom terms new_terms (end + x.len)
    → Stays terms rs new_terms (set rs slot record { live = true; start = end; len = x.len; rank = kept })) (sym at.1)
    (λ c f. stays-moved terms new_terms rs _ order i kept end slot s at.0 (sym (ap (λ (x : Run). x.live) at.1) ∙ live) (sym (ap (λ (x : Run). x.rank) at.1) ∙ rank) refl same c below f)
    copied from

pub done-top : (rs : List Run) (order : List ℕ) (n i kept end slot m : ℕ) (r : Run) → Settled rs order n i kept end → i < length order → slot ≡ get_or order i slot
    → r ≡ get_or rs slot r → r.live ≡ true → r.rank ≡ i → m ≡ length order
    → (k : ℕ) → (run_at rs k).live ≡ true → IsTop rs k i kept end (length order)
    → IsTop (set rs slot record { live = true; start = end; len = r.len; rank = kept }) k (suc i) (kept + 1) (end + r.len) m
done-top rs order n i kept end slot m r s lt entry is live rank same k l t =
    let at = read-slot rs order n i kept end slot r s lt entry is in
    subst (λ (x : Run). IsTop (set rs slot record { live = true; start = end; len = x.len; rank = kept }) k (suc i) (kept + 1) (end + x.len) m) (sym at.1)
    (subst (λ c. IsTop (set rs slot record { live = true; start = end; len = (run_at rs slot).len; rank = kept }) k (suc i) (kept + 1) (end + (run_at rs slot).len) c) (sym same)
    (top-moved rs _ order n i kept end slot k s lt at.0 (sym (ap (λ (x : Run). x.live) at.1) ∙ live) (sym (ap (λ (x : Run). x.rank) at.1) ∙ rank) refl l t))

pub done-inside : (rs : List Run) (order : List ℕ) (n i kept end slot : ℕ) (r : Run) → Settled rs order n i kept end → i < length order → slot ≡ get_or order i slot
    → r ≡ get_or rs slot r → r.live ≡ true → r.rank ≡ i → end + r.len ≤ n
done-inside rs order n i kept end slot r s lt entry is live rank =
    let at = read-slot rs order n i kept end slot r s lt entry is in
    let lives : (run_at rs slot).live ≡ true = sym (ap (λ (x : Run). x.live) at.1) ∙ live in
    let ranks : (run_at rs slot).rank ≡ i = sym (ap (λ (x : Run). x.rank) at.1) ∙ rank in
    omega (arith, ap (λ (x : Run). x.len) at.1, s.behind slot lives (omega (arith, ranks)), s.ordered.inside slot lives)

-- ---- the terms behind the last run are given up
pub list-cut : (terms : List Term) (rs : List Run) (n k : ℕ) → n ≤ length terms → ((run_at rs k).live ≡ true → (run_at rs k).start + (run_at rs k).len ≤ n) → list_of (take n terms) rs k ≡ list_of terms rs k
list-cut terms rs n k le h = same-list (take n terms) terms (run_at rs k) (run_at rs k) refl (λ l.
    run-same (take n terms) terms (run_at rs k).start (run_at rs k).start (run_at rs k).len (omega (arith, cut, h l)) (omega (arith, h l))
    (λ x d lt. lists.get_or-take n terms ((run_at rs k).start + x) d (omega (arith, h l))))
  where
    cut : length (take n terms) ≡ n
    cut = simp (length-take) (omega arith)

pub stays-cut : (terms new : List Term) (rs : List Run) (n : ℕ) → n ≤ length terms → ((k : ℕ) → (run_at rs k).live ≡ true → (run_at rs k).start + (run_at rs k).len ≤ n)
    → new ≡ take n terms → Stays terms rs new rs
stays-cut terms new rs n le h e =
    record { lists = λ k. ap (λ t. list_of t rs k) e ∙ list-cut terms rs n k le (h k); lives = λ k. refl; same_slots = refl; same_units = refl; same_count = refl }

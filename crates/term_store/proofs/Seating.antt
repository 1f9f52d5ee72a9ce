-- Seating, lengthening, vacating and gathering anew.
use Rattle.std.proofs.Common.{◌≡◌, ◌≢◌, ℕ, ◌+◌, ◌<◌, ◌≤◌, zero, suc, List, [], ◌∷◌, ◌++◌, length, take, drop, get_or, set, refl, sym, ◌∙◌, ap, Bool, true, false, nat_eq, nat_le, arith, length-append}
use Rattle.std.specs.Prelude.{Option, Some, None, is_some}
use Rattle.std.specs.FinMap.{insert, remove}
use Rattle.term_store.specs.States.{IsLive, list_at, list_or_none}
use Rattle.std.specs.List.{list_all}
use Rattle.std.proofs.lemmas.Bool.Decides.{nat_tests}
use Rattle.std.proofs.Math.ListN.{length-set}
use Rattle.std.proofs.lemmas.List.{get_or-set_same}
use Rattle.std.proofs.Math.Seq.{drop-append_seam}
use Rattle.std.proofs.lemmas.Bool.{and_from, and_parts}
use Rattle.poly_model.specs.declared.term.Term.{Term}
use Rattle.term_store.specs.declared.space.Place.{Place}
use Rattle.term_store.specs.Runs.{run_of, run_at, nowhere, list_in, is_inside, are_inside, terms_in, units, units_of, is_used, gathered, placed, is_last, ends_last, vacated, lists_of, Gathered}
use Rattle.term_store.proofs.Places.{le_true, inside-live, run-length, length-gathered, length-placed, units-placed, inside-placed, list-gathered, list-set_here, list-set_other, units-set, inside-set, inside-up, inside-get, list-behind, get-lists, lists-set, lists-unset}

pub units_of-live : (p : Place) → p.live ≡ true → units_of p ≡ p.len + 1
units_of-live p l = ap (λ b. elim b as (λ _. ℕ) [ false ↦ 0 | true ↦ p.len + 1 ]) l

pub units_of-dead : (p : Place) → p.live ≡ false → units_of p ≡ 0
units_of-dead p l = ap (λ b. elim b as (λ _. ℕ) [ false ↦ 0 | true ↦ p.len + 1 ]) l

pub inside-dead : (n : ℕ) (p : Place) → p.live ≡ false → is_inside n p ≡ true
inside-dead n p l = ap (λ b. elim b as (λ _. Bool) [ false ↦ true | true ↦ nat_le (p.start + p.len) n ]) l

pub inside-of : (n : ℕ) (p : Place) → p.start + p.len ≤ n → is_inside n p ≡ true
inside-of n p le = elim p.live as (λ b. elim b as (λ _. Bool) [ false ↦ true | true ↦ nat_le (p.start + p.len) n ] ≡ true) [ false ↦ refl | true ↦ le_true _ _ le ]

pub last-live : (n : ℕ) (p : Place) → is_last n p ≡ true → p.live ≡ true
last-live n p e = (and_parts p.live _ e).0

pub last-end : (n : ℕ) (p : Place) → is_last n p ≡ true → p.start + p.len ≡ n
last-end n p e = let h = (and_parts p.live (nat_eq (p.start + p.len) n) e).1 in grind (arith, nat_tests)

pub last-of : (n : ℕ) (p : Place) → p.live ≡ true → p.start + p.len ≡ n → is_last n p ≡ true
last-of n p l e = and_from _ _ l (eq _ _ e)
  where
    eq : (a b : ℕ) → a ≡ b → nat_eq a b ≡ true
    eq a b e = grind (arith, nat_tests)

-- ---- a place more
pub seat-here : (ps : List Place) (p : Place) → get_or (ps ++ p ∷ []) (length ps) nowhere ≡ p
seat-here [] p = refl
seat-here (q ∷ ps) p = seat-here ps p

pub seat-other : (terms : List Term) (ps : List Place) (p : Place) (j : ℕ) → j ≢ length ps → list_in terms (ps ++ p ∷ []) j ≡ list_in terms ps j
seat-other terms [] p zero n = absurd (n refl)
seat-other terms [] p (suc j) n = refl
seat-other terms (q ∷ ps) p zero n = refl
seat-other terms (q ∷ ps) p (suc j) n = seat-other terms ps p j (λ e. n (ap suc e))

units-cons : (q : Place) (xs : List Place) → units (q ∷ xs) ≡ units_of q + units xs
units-cons q xs = elim q.live as (λ b. elim b as (λ _. ℕ) [ false ↦ units xs | true ↦ q.len + 1 + units xs ] ≡ elim b as (λ _. ℕ) [ false ↦ 0 | true ↦ q.len + 1 ] + units xs) [ false ↦ omega arith | true ↦ omega arith ]

pub units-more : (ps : List Place) (p : Place) → units (ps ++ p ∷ []) ≡ units ps + units_of p
units-more [] p = omega (arith, units-cons p [])
units-more (q ∷ ps) p = omega (arith, units-cons q (ps ++ p ∷ []), units-cons q ps, units-more ps p)

pub inside-seat : (n : ℕ) (ps : List Place) (p : Place) → are_inside n ps ≡ true → is_inside n p ≡ true → are_inside n (ps ++ p ∷ []) ≡ true
inside-seat n [] p e h = and_from _ _ h refl
inside-seat n (q ∷ ps) p e h = and_from _ _ (and_parts (is_inside n q) _ e).0 (inside-seat n ps p (and_parts (is_inside n q) _ e).1 h)

pub all-used : (ps : List Place) → list_all is_used ps ≡ true → length ps ≤ units ps
all-used [] e = omega arith
all-used (p ∷ ps) e = omega (arith, units-cons p ps, units_of-live p (and_parts p.live (list_all is_used ps) e).0, all-used ps (and_parts p.live (list_all is_used ps) e).1)

-- ---- a list of one term more
pub units-longer : (ps : List Place) (k : ℕ) (p : Place) → k < length ps → p ≡ get_or ps k nowhere → p.live ≡ true → units (set ps k record { live = p.live; start = p.start; len = p.len + 1 }) ≡ units ps + 1
units-longer ps k p lt e l =
    let q : Place = record { live = p.live; start = p.start; len = p.len + 1 } in
    omega (arith, units-set ps k q lt, units_of-live q l, units_of-live p l, ap units_of e)

-- ---- gathering anew, all but the place k
dead : Place → Place
dead p = record { live = false; start = p.start; len = p.len }

terms-cons : (q : Place) (xs : List Place) → terms_in (q ∷ xs) + 1 ≤ units_of q + terms_in xs + 1
terms-cons q xs = elim q.live as (λ b. elim b as (λ _. ℕ) [ false ↦ terms_in xs | true ↦ q.len + terms_in xs ] + 1 ≤ elim b as (λ _. ℕ) [ false ↦ 0 | true ↦ q.len + 1 ] + terms_in xs + 1) [ false ↦ omega arith | true ↦ omega arith ]

pub terms-units : (ps : List Place) → terms_in ps ≤ units ps
terms-units [] = omega arith
terms-units (p ∷ ps) = omega (arith, terms-cons p ps, units-cons p ps, terms-units ps)

-- the list at k behind the others
pub gathered-lists : (terms : List Term) (ps : List Place) (k : ℕ) (p : Place) → are_inside (length terms) ps ≡ true → k < length ps → p ≡ get_or ps k nowhere → p.live ≡ true
    → (q : Place) (others : List Place) (new : List Term) → others ≡ set ps k record { live = false; start = p.start; len = p.len } → new ≡ gathered terms others ++ run_of terms p
    → q ≡ record { live = p.live; start = length (gathered terms others); len = p.len }
    → (j : ℕ) → list_in new (set (placed 0 others) k q) j ≡ list_in terms ps j
gathered-lists terms ps k p inside below is live q others new os ns qs j =
    let inside_p : p.start + p.len ≤ length terms = inside-live _ p (ap (is_inside (length terms)) is ∙ inside-get _ ps k inside) live in
    let inside_others : are_inside (length terms) others ≡ true = ap (are_inside (length terms)) os ∙ inside-set _ ps k _ inside refl in
    let seats : length (placed 0 others) ≡ length ps = length-placed 0 others ∙ ap length os ∙ length-set ps k _ in
    let at_end : run_at new q ≡ Some (run_of terms p) =
    (λ i. run_at (ns i) (qs i)) ∙ ap (λ b. elim b as (λ _. Option (List Term)) [ false ↦ None | true ↦ Some (run_of (gathered terms others ++ run_of terms p) record { live = p.live; start = length (gathered terms others); len = p.len }) ]) live
    ∙ ap Some (behind (gathered terms others) (run_of terms p) p.len (run-length terms p inside_p)) in
    by_case (nat_eq j k) refl seats at_end inside_others
  where
    behind : (front xs : List Term) (n : ℕ) → length xs ≡ n → take n (drop (length front) (front ++ xs)) ≡ xs
    behind front xs n e = ap (take n) (drop-append_seam front xs) ∙ ap (λ m. take m xs) (sym e) ∙ whole xs
      where
        whole : (xs : List Term) → take (length xs) xs ≡ xs
        whole [] = refl
        whole (x ∷ xs) = ap (λ l. x ∷ l) (whole xs)

    eq_of : (a b : ℕ) → nat_eq a b ≡ true → a ≡ b
    eq_of a b e = grind (arith, nat_tests)

    ne_of : (a b : ℕ) → nat_eq a b ≡ false → a ≢ b
    ne_of a b e n = absurd (let h : true ≡ false = sym (let r : nat_eq a b ≡ true = grind (arith, nat_tests) in r) ∙ e in cc)

    inside_whole : are_inside (length terms) others ≡ true → (j : ℕ) → list_in new (placed 0 others) j ≡ list_in terms others j
    inside_whole i j =
        ap (λ t. list_in t (placed 0 others) j) ns
        ∙ list-behind (gathered terms others) (run_of terms p) (placed 0 others) j
        (ap (λ n. are_inside n (placed 0 others)) (length-gathered terms others i ∙ (let e : terms_in others ≡ 0 + terms_in others = omega arith in e)) ∙ inside-placed 0 others)
        ∙ list-gathered [] terms others j i

    by_case : (b : Bool) → nat_eq j k ≡ b → length (placed 0 others) ≡ length ps → run_at new q ≡ Some (run_of terms p) → are_inside (length terms) others ≡ true
        → list_in new (set (placed 0 others) k q) j ≡ list_in terms ps j
    by_case true e seats at_end i =
        let same = eq_of j k e in
        ap (list_in new (set (placed 0 others) k q)) same ∙ list-set_here new (placed 0 others) k q (omega (arith, seats)) ∙ at_end
        ∙ sym (ap (list_in terms ps) same ∙ ap (run_at terms) (sym is) ∙ ap (λ b. elim b as (λ _. Option (List Term)) [ false ↦ None | true ↦ Some (run_of terms p) ]) live)
    by_case false e seats at_end i =
        let apart = ne_of j k e in
        list-set_other new (placed 0 others) k j q apart ∙ inside_whole i j ∙ ap (λ os. list_in terms os j) os ∙ list-set_other terms ps k j _ apart

-- ---- what is known of a live slot
live-of : (b : Bool) (xs : List Term) → is_some (elim b as (λ _. Option (List Term)) [ false ↦ None | true ↦ Some xs ]) ≡ true → b ≡ true
live-of true xs e = refl
live-of false xs e = e

pub live-place : (terms : List Term) (ps : List Place) (k : ℕ) → IsLive (lists_of terms ps) k → (get_or ps k nowhere).live ≡ true
live-place terms ps k e = live-of _ (run_of terms (get_or ps k nowhere)) (sym (ap is_some (get-lists terms ps k)) ∙ e)

pub live-below : (terms : List Term) (ps : List Place) (k : ℕ) → IsLive (lists_of terms ps) k → k < length ps
live-below terms ps k e = below ps k (live-place terms ps k e)
  where
    below : (ps : List Place) (k : ℕ) → (get_or ps k nowhere).live ≡ true → k < length ps
    below [] k e = absurd (let h : false ≡ true = e in cc)
    below (p ∷ ps) zero e = omega arith
    below (p ∷ ps) (suc k) e = omega (arith, below ps k e)

pub live-run : (terms : List Term) (ps : List Place) (k : ℕ) → IsLive (lists_of terms ps) k → list_at (lists_of terms ps) k ≡ run_of terms (get_or ps k nowhere)
live-run terms ps k e =
    ap list_or_none (get-lists terms ps k ∙ ap (λ b. elim b as (λ _. Option (List Term)) [ false ↦ None | true ↦ Some (run_of terms (get_or ps k nowhere)) ]) (live-place terms ps k e))

pub live-inside : (terms : List Term) (ps : List Place) (k : ℕ) → are_inside (length terms) ps ≡ true → IsLive (lists_of terms ps) k
    → (get_or ps k nowhere).start + (get_or ps k nowhere).len ≤ length terms
live-inside terms ps k i e = inside-live _ (get_or ps k nowhere) (inside-get _ ps k i) (live-place terms ps k e)

pub live-length : (terms : List Term) (ps : List Place) (k : ℕ) → are_inside (length terms) ps ≡ true → IsLive (lists_of terms ps) k
    → length (list_at (lists_of terms ps) k) ≡ (get_or ps k nowhere).len
live-length terms ps k i e = ap length (live-run terms ps k e) ∙ run-length terms (get_or ps k nowhere) (live-inside terms ps k i e)

run-item : (terms : List Term) (s n i : ℕ) (d : Term) → i < n → s + n ≤ length terms → get_or (take n (drop s terms)) i d ≡ get_or terms (s + i) d
run-item terms s zero i d lt le = absurd (omega arith)
run-item [] zero (suc n) i d lt le = absurd (omega arith)
run-item (t ∷ terms) zero (suc n) zero d lt le = refl
run-item (t ∷ terms) zero (suc n) (suc i) d lt le =
    run-item terms zero n i d (omega arith) (omega arith) ∙ ap (λ k. get_or terms k d) (let e : 0 + i ≡ i = omega arith in e)
    ∙ ap (λ k. get_or (t ∷ terms) k d) (let e : suc i ≡ 0 + suc i = omega arith in e)
run-item [] (suc s) (suc n) i d lt le = absurd (omega arith)
run-item (t ∷ terms) (suc s) (suc n) i d lt le =
    run-item terms s (suc n) i d lt (omega arith) ∙ ap (λ k. get_or (t ∷ terms) k d) (let e : suc (s + i) ≡ suc s + i = omega arith in e)

pub live-item : (terms : List Term) (ps : List Place) (k i : ℕ) (d : Term) → are_inside (length terms) ps ≡ true → IsLive (lists_of terms ps) k
    → i < (get_or ps k nowhere).len → get_or (list_at (lists_of terms ps) k) i d ≡ get_or terms ((get_or ps k nowhere).start + i) d
live-item terms ps k i d inside e lt =
    ap (λ l. get_or l i d) (live-run terms ps k e) ∙ run-item terms _ _ i d lt (live-inside terms ps k inside e)

pub vacant-of : (terms : List Term) (ps : List Place) (k : ℕ) → (get_or ps k nowhere).live ≡ false → IsLive (lists_of terms ps) k → ⊥
vacant-of terms ps k dead e = absurd (let h : true ≡ false = sym (live-place terms ps k e) ∙ dead in cc)

-- a list at a place of its own, one more, one longer, one less
pub lists-fresh : (terms : List Term) (ps qs : List Place) (k : ℕ) → get_or qs k nowhere ≡ record { live = true; start = length terms; len = 0 }
    → ((j : ℕ) → j ≢ k → get_or qs j nowhere ≡ get_or ps j nowhere) → lists_of terms qs ≡ insert (lists_of terms ps) k []
lists-fresh terms ps qs k here others = lists-set terms terms ps qs k [] (ap (run_at terms) here) (λ j n. ap (run_at terms) (others j n))

pub lists-vacated : (terms : List Term) (ps qs : List Place) (k : ℕ) → (get_or qs k nowhere).live ≡ false
    → ((j : ℕ) → j ≢ k → get_or qs j nowhere ≡ get_or ps j nowhere) → lists_of terms qs ≡ remove (lists_of terms ps) k
lists-vacated terms ps qs k here others =
    lists-unset terms terms ps qs k (ap (λ b. elim b as (λ _. Option (List Term)) [ false ↦ None | true ↦ Some (run_of terms (get_or qs k nowhere)) ]) here) (λ j n. ap (run_at terms) (others j n))

pub last-longer : (terms : List Term) (p : Place) (t : Term) → is_last (length terms) p ≡ true → run_of (terms ++ t ∷ []) record { live = p.live; start = p.start; len = p.len + 1 } ≡ run_of terms p ++ t ∷ []
last-longer terms p t e = at-end p.start p.len terms (last-end _ p e)
  where
    at-end : (s n : ℕ) (xs : List Term) → s + n ≡ length xs → take (n + 1) (drop s (xs ++ t ∷ [])) ≡ take n (drop s xs) ++ t ∷ []
    at-end zero zero [] e = refl
    at-end zero zero (x ∷ xs) e = absurd (omega arith)
    at-end zero (suc n) [] e = absurd (omega arith)
    at-end zero (suc n) (x ∷ xs) e = ap (λ k. take k (x ∷ (xs ++ t ∷ []))) (let h : suc n + 1 ≡ suc (n + 1) = omega arith in h) ∙ ap (λ l. x ∷ l) (at-end zero n xs (omega arith))
    at-end (suc s) n [] e = absurd (omega arith)
    at-end (suc s) n (x ∷ xs) e = at-end s n xs (omega arith)

-- the newest list stays where another is given up
pub last-kept : (n : ℕ) (ps qs : List Place) (k : ℕ) (newest : Option ℕ) → ((j : ℕ) → j ≢ k → get_or qs j nowhere ≡ get_or ps j nowhere) → newest ≢ Some k
    → ends_last n ps newest ≡ true → ends_last n qs newest ≡ true
last-kept n ps qs k None others apart e = refl
last-kept n ps qs k (Some o) others apart e = ap (is_last n) (others o (λ s. apart (ap Some s))) ∙ e

others-units : (ps : List Place) (k : ℕ) → k < length ps → (get_or ps k nowhere).live ≡ true → units (vacated ps k) + ((get_or ps k nowhere).len + 1) ≡ units ps
others-units ps k below live = omega (arith, units-set ps k record { live = false; start = (get_or ps k nowhere).start; len = (get_or ps k nowhere).len } below, units_of-live (get_or ps k nowhere) live)

pub gathered-room : (ps : List Place) (k : ℕ) → k < length ps → (get_or ps k nowhere).live ≡ true → terms_in (vacated ps k) + (get_or ps k nowhere).len + 1 ≤ units ps
gathered-room ps k below live = omega (arith, terms-units (vacated ps k), others-units ps k below live)

pub inside-vacated : (n : ℕ) (ps : List Place) (k : ℕ) → are_inside n ps ≡ true → are_inside n (vacated ps k) ≡ true
inside-vacated n ps k inside = inside-set n ps k record { live = false; start = (get_or ps k nowhere).start; len = (get_or ps k nowhere).len } inside refl

placed-dead : (at : ℕ) (ps : List Place) (k : ℕ) → (get_or ps k nowhere).live ≡ false → units_of (get_or (placed at ps) k nowhere) ≡ 0
placed-dead at [] k e = refl
placed-dead at (p ∷ ps) zero e =
    elim p.live as (λ b. p.live ≡ b → b ≡ false → units_of (get_or (elim b as (λ _. List Place) [ false ↦ p ∷ placed at ps | true ↦ record { live = true; start = at; len = p.len } ∷ placed (at + p.len) ps ]) 0 nowhere) ≡ 0) [
      | false ↦ λ l d. units_of-dead p l
      | true ↦ λ l d. absurd (cc)
    ] refl e
placed-dead at (p ∷ ps) (suc k) e =
    elim p.live as (λ b. units_of (get_or (elim b as (λ _. List Place) [ false ↦ p ∷ placed at ps | true ↦ record { live = true; start = at; len = p.len } ∷ placed (at + p.len) ps ]) (suc k) nowhere) ≡ 0) [
      | false ↦ placed-dead at ps k e
      | true ↦ placed-dead (at + p.len) ps k e
    ]

pub gathered-is : (terms : List Term) (ps : List Place) (k : ℕ) → are_inside (length terms) ps ≡ true → k < length ps → (get_or ps k nowhere).live ≡ true
    → (new : List Term) (qs : List Place) → new ≡ gathered terms (vacated ps k) ++ run_of terms (get_or ps k nowhere)
    → qs ≡ set (placed 0 (vacated ps k)) k record { live = true; start = length (gathered terms (vacated ps k)); len = (get_or ps k nowhere).len }
    → Gathered terms ps new qs k
gathered-is terms ps k inside below live new qs ns is =
    let p = get_or ps k nowhere in
    let others = vacated ps k in
    let q : Place = record { live = true; start = length (gathered terms others); len = p.len } in
    let q_is : q ≡ record { live = p.live; start = length (gathered terms others); len = p.len } = λ i. record { live = sym live i; start = length (gathered terms others); len = p.len } in
    let seats : length (placed 0 others) ≡ length ps = length-placed 0 others ∙ length-set ps k _ in
    let here : get_or qs k nowhere ≡ q = ap (λ l. get_or l k nowhere) is ∙ get_or-set_same (placed 0 others) k q nowhere (omega (arith, seats)) in
    let inside_p : p.start + p.len ≤ length terms = inside-live _ p (inside-get _ ps k inside) live in
    let grown : length new ≡ length (gathered terms others) + p.len = ap length ns ∙ length-append (gathered terms others) (run_of terms p) ∙ ap (λ n. length (gathered terms others) + n) (run-length terms p inside_p) in
    let total : length (gathered terms others) ≡ terms_in others = length-gathered terms others (inside-vacated _ ps k inside) in
    let room = gathered-room ps k below live in
    let dead_here : (get_or others k nowhere).live ≡ false = ap (λ (x : Place). x.live) (get_or-set_same ps k record { live = false; start = p.start; len = p.len } nowhere below) in
    let again : units (set (placed 0 others) k q) ≡ units ps =
    omega (arith, units-set (placed 0 others) k q (omega (arith, seats)), placed-dead 0 others k dead_here, units-placed 0 others, others-units ps k below live) in
    record {
      same_lists = λ j. ap (λ l. list_in new l j) is ∙ gathered-lists terms ps k p inside below refl live q others new refl ns q_is j;
      same_units = ap units is ∙ again;
      same_places = ap length is ∙ length-set (placed 0 others) k q ∙ seats;
      inside = (λ i. are_inside (grown i) (is i)) ∙ inside-set _ (placed 0 others) k q (inside-up (0 + terms_in others) _ (placed 0 others) (omega (arith, total)) (inside-placed 0 others)) (inside-of _ q (omega (arith)));
      last = ap (is_last (length new)) here ∙ last-of (length new) q refl (sym grown);
      shorter = omega (arith, grown, total, room);
    }

-- a list of one term more, also where all lists were gathered anew before
pub lists-pushed : (terms mid new : List Term) (ps ms qs : List Place) (k : ℕ) (t : Term) → ((j : ℕ) → list_in mid ms j ≡ list_in terms ps j)
    → (get_or ms k nowhere).live ≡ true → (get_or qs k nowhere).live ≡ true → run_of new (get_or qs k nowhere) ≡ run_of mid (get_or ms k nowhere) ++ t ∷ []
    → ((j : ℕ) → j ≢ k → list_in new qs j ≡ list_in mid ms j) → lists_of new qs ≡ insert (lists_of terms ps) k (list_at (lists_of terms ps) k ++ t ∷ [])
lists-pushed terms mid new ps ms qs k t same live live_new here others =
    let old : list_at (lists_of terms ps) k ≡ run_of mid (get_or ms k nowhere) =
    ap list_or_none (get-lists terms ps k ∙ sym (same k) ∙ ap (λ b. elim b as (λ _. Option (List Term)) [ false ↦ None | true ↦ Some (run_of mid (get_or ms k nowhere)) ]) live) in
    lists-set terms new ps qs k _
    (ap (λ b. elim b as (λ _. Option (List Term)) [ false ↦ None | true ↦ Some (run_of new (get_or qs k nowhere)) ]) live_new ∙ ap Some (here ∙ ap (λ l. l ++ t ∷ []) (sym old)))
    (λ j n. others j n ∙ same j)

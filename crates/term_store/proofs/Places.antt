-- Places and the lists that stand there.
use Rattle.std.proofs.Common.{◌≡◌, ◌≢◌, ℕ, ◌+◌, ◌<◌, ◌≤◌, zero, suc, List, [], ◌∷◌, ◌++◌, length, take, drop, get_or, set, refl, sym, ◌∙◌, ap, Bool, true, false, cond, nat_le, arith, append_assoc, length-take, length-drop, length-append}
use Rattle.std.specs.Prelude.{Option, Some, None}
use Rattle.std.specs.Ordering.{nat_cmp}
use Rattle.std.specs.Cmp.{nat_cmp_total}
use Rattle.std.specs.FinMap.{get, insert, remove, find, get-insert, get-remove, get-from_entries}
use Rattle.std.proofs.lemmas.Bool.Decides.{nat_tests}
use Rattle.std.proofs.Math.Seq.{take-append_seam, drop-append_seam}
use Rattle.std.proofs.lemmas.List.{take-append-le}
use Rattle.std.proofs.lemmas.Bool.{and_from, and_parts}
use Rattle.poly_model.specs.declared.term.Term.{Term}
use Rattle.term_store.specs.declared.space.Place.{Place}
use Rattle.term_store.specs.Runs.{run_of, run_at, nowhere, list_in, is_inside, are_inside, terms_in, units, gathered, placed, entries_from, lists_of, units_of}
use Rattle.term_store.proofs.Maps.{same_lists, tied-same, tied-self, tied}

pub le_of : (a b : ℕ) → nat_le a b ≡ true → a ≤ b
le_of a b e = grind (arith, nat_tests)

pub le_true : (a b : ℕ) → a ≤ b → nat_le a b ≡ true
le_true a b e = grind (arith, nat_tests)

-- ---- the map of the lists
tied-apart : (j k : ℕ) → j ≢ k → tied j k ≡ false
tied-apart j k n = elim (tied j k) as (λ b. tied j k ≡ b → tied j k ≡ false) [ true ↦ λ e. absurd (n (tied-same j k e)) | false ↦ λ e. e ] refl

find-below : (terms : List Term) (q k : ℕ) (ps : List Place) → q < k → find nat_cmp q (entries_from terms k ps) ≡ None
find-below terms q k [] lt = refl
find-below terms q k (p ∷ ps) lt =
    elim p.live as (λ b. find nat_cmp q (elim b as (λ _. List (ℕ × List Term)) [ false ↦ entries_from terms (suc k) ps | true ↦ (k, run_of terms p) ∷ entries_from terms (suc k) ps ]) ≡ None) [
      | false ↦ find-below terms q (suc k) ps (omega arith)
      | true ↦ ap (λ b. cond b (Some (run_of terms p)) (find nat_cmp q (entries_from terms (suc k) ps))) (tied-apart q k (λ e. absurd (omega (arith, e))))
          ∙ find-below terms q (suc k) ps (omega arith)
    ]

find-entries : (terms : List Term) (k j : ℕ) (ps : List Place) → find nat_cmp (k + j) (entries_from terms k ps) ≡ list_in terms ps j
find-entries terms k j [] = refl
find-entries terms k zero (p ∷ ps) =
    elim p.live as (λ b. find nat_cmp (k + 0) (elim b as (λ _. List (ℕ × List Term)) [ false ↦ entries_from terms (suc k) ps | true ↦ (k, run_of terms p) ∷ entries_from terms (suc k) ps ])
    ≡ elim b as (λ _. Option (List Term)) [ false ↦ None | true ↦ Some (run_of terms p) ]) [
      | false ↦ find-below terms (k + 0) (suc k) ps (omega arith)
      | true ↦ ap (λ b. cond b (Some (run_of terms p)) (find nat_cmp (k + 0) (entries_from terms (suc k) ps)))
          (ap (λ n. tied n k) (let e : k + 0 ≡ k = omega arith in e) ∙ tied-self k)
    ]
find-entries terms k (suc j) (p ∷ ps) =
    let there : k + suc j ≡ suc k + j = omega arith in
    elim p.live as (λ b. find nat_cmp (k + suc j) (elim b as (λ _. List (ℕ × List Term)) [ false ↦ entries_from terms (suc k) ps | true ↦ (k, run_of terms p) ∷ entries_from terms (suc k) ps ]) ≡ list_in terms ps j) [
      | false ↦ ap (λ n. find nat_cmp n (entries_from terms (suc k) ps)) there ∙ find-entries terms (suc k) j ps
      | true ↦ ap (λ b. cond b (Some (run_of terms p)) (find nat_cmp (k + suc j) (entries_from terms (suc k) ps))) (tied-apart (k + suc j) k (λ e. absurd (omega (arith, e))))
          ∙ ap (λ n. find nat_cmp n (entries_from terms (suc k) ps)) there ∙ find-entries terms (suc k) j ps
    ]

pub get-lists : (terms : List Term) (ps : List Place) (k : ℕ) → get (lists_of terms ps) k ≡ list_in terms ps k
get-lists terms ps k =
    get-from_entries nat_cmp_total (entries_from terms 0 ps) k
    ∙ ap (λ n. find nat_cmp n (entries_from terms 0 ps)) (let e : k ≡ 0 + k = omega arith in e) ∙ find-entries terms 0 k ps

-- one list more, or another in its place
pub lists-set : (terms new : List Term) (ps qs : List Place) (k : ℕ) (xs : List Term) → list_in new qs k ≡ Some xs
    → ((j : ℕ) → j ≢ k → list_in new qs j ≡ list_in terms ps j) → lists_of new qs ≡ insert (lists_of terms ps) k xs
lists-set terms new ps qs k xs here others = same_lists _ _ (λ q.
    get-lists new qs q
    ∙ elim (tied q k) as (λ b. tied q k ≡ b → list_in new qs q ≡ cond b (Some xs) (list_in terms ps q)) [
      | true ↦ λ e. ap (list_in new qs) (tied-same q k e) ∙ here
      | false ↦ λ e. others q (λ s. absurd (let h : true ≡ false = sym (ap (λ n. tied n k) s ∙ tied-self k) ∙ e in cc))
    ] refl
    ∙ ap (cond (tied q k) (Some xs)) (sym (get-lists terms ps q)) ∙ sym (get-insert nat_cmp_total (lists_of terms ps) k xs q))

pub lists-unset : (terms new : List Term) (ps qs : List Place) (k : ℕ) → list_in new qs k ≡ None
    → ((j : ℕ) → j ≢ k → list_in new qs j ≡ list_in terms ps j) → lists_of new qs ≡ remove (lists_of terms ps) k
lists-unset terms new ps qs k here others = same_lists _ _ (λ q.
    get-lists new qs q
    ∙ elim (tied q k) as (λ b. tied q k ≡ b → list_in new qs q ≡ cond b None (list_in terms ps q)) [
      | true ↦ λ e. ap (list_in new qs) (tied-same q k e) ∙ here
      | false ↦ λ e. others q (λ s. absurd (let h : true ≡ false = sym (ap (λ n. tied n k) s ∙ tied-self k) ∙ e in cc))
    ] refl
    ∙ ap (cond (tied q k) None) (sym (get-lists terms ps q)) ∙ sym (get-remove nat_cmp_total (lists_of terms ps) k q))

pub lists-same : (terms new : List Term) (ps qs : List Place) → ((j : ℕ) → list_in new qs j ≡ list_in terms ps j) → lists_of new qs ≡ lists_of terms ps
lists-same terms new ps qs others = same_lists _ _ (λ q. get-lists new qs q ∙ others q ∙ sym (get-lists terms ps q))

-- ---- gathering
pub run-length : (terms : List Term) (p : Place) → p.start + p.len ≤ length terms → length (run_of terms p) ≡ p.len
run-length terms p le = simp (length-take, length-drop) (omega arith)

pub inside-live : (n : ℕ) (p : Place) → is_inside n p ≡ true → p.live ≡ true → p.start + p.len ≤ n
inside-live n p e l = le_of _ _ (sym (ap (λ b. elim b as (λ _. Bool) [ false ↦ true | true ↦ nat_le (p.start + p.len) n ]) l) ∙ e)

pub length-gathered : (terms : List Term) (ps : List Place) → are_inside (length terms) ps ≡ true → length (gathered terms ps) ≡ terms_in ps
length-gathered terms [] e = refl
length-gathered terms (p ∷ ps) e =
    let rest = length-gathered terms ps (and_parts (is_inside (length terms) p) _ e).1 in
    elim p.live as (λ b. p.live ≡ b → length (elim b as (λ _. List Term) [ false ↦ gathered terms ps | true ↦ run_of terms p ++ gathered terms ps ]) ≡ elim b as (λ _. ℕ) [ false ↦ terms_in ps | true ↦ p.len + terms_in ps ]) [
      | false ↦ λ l. rest
      | true ↦ λ l. let here = run-length terms p (inside-live _ p (and_parts _ _ e).0 l) in length-append (run_of terms p) (gathered terms ps) ∙ (λ i. here i + rest i)
    ] refl

pub length-placed : (at : ℕ) (ps : List Place) → length (placed at ps) ≡ length ps
length-placed at [] = refl
length-placed at (p ∷ ps) =
    elim p.live as (λ b. length (elim b as (λ _. List Place) [ false ↦ p ∷ placed at ps | true ↦ record { live = true; start = at; len = p.len } ∷ placed (at + p.len) ps ]) ≡ suc (length ps)) [
      | false ↦ ap suc (length-placed at ps)
      | true ↦ ap suc (length-placed (at + p.len) ps)
    ]

pub units-placed : (at : ℕ) (ps : List Place) → units (placed at ps) ≡ units ps
units-placed at [] = refl
units-placed at (p ∷ ps) =
    elim p.live as (λ b. p.live ≡ b → units (elim b as (λ _. List Place) [ false ↦ p ∷ placed at ps | true ↦ record { live = true; start = at; len = p.len } ∷ placed (at + p.len) ps ]) ≡ elim b as (λ _. ℕ) [ false ↦ units ps | true ↦ p.len + 1 + units ps ]) [
      | false ↦ λ l. ap (λ b. elim b as (λ _. ℕ) [ false ↦ units (placed at ps) | true ↦ p.len + 1 + units (placed at ps) ]) l ∙ units-placed at ps
      | true ↦ λ l. ap (λ n. p.len + 1 + n) (units-placed (at + p.len) ps)
    ] refl

inside-more : (m n : ℕ) (ps : List Place) → m ≤ n → are_inside m ps ≡ true → are_inside n ps ≡ true
inside-more m n [] le e = refl
inside-more m n (p ∷ ps) le e =
    and_from _ _ (one p (and_parts (is_inside m p) _ e).0) (inside-more m n ps le (and_parts (is_inside m p) _ e).1)
  where
    one : (p : Place) → is_inside m p ≡ true → is_inside n p ≡ true
    one p =
        elim p.live as (λ b. elim b as (λ _. Bool) [ false ↦ true | true ↦ nat_le (p.start + p.len) m ] ≡ true → elim b as (λ _. Bool) [ false ↦ true | true ↦ nat_le (p.start + p.len) n ] ≡ true) [
          | false ↦ λ e. refl
          | true ↦ λ e. le_true _ _ (omega (arith, le_of _ _ e))
        ]

pub inside-placed : (at : ℕ) (ps : List Place) → are_inside (at + terms_in ps) (placed at ps) ≡ true
inside-placed at [] = refl
inside-placed at (p ∷ ps) =
    elim p.live as (λ b. p.live ≡ b → are_inside (at + elim b as (λ _. ℕ) [ false ↦ terms_in ps | true ↦ p.len + terms_in ps ]) (elim b as (λ _. List Place) [ false ↦ p ∷ placed at ps | true ↦ record { live = true; start = at; len = p.len } ∷ placed (at + p.len) ps ]) ≡ true) [
      | false ↦ λ l. and_from _ _ (ap (λ b. elim b as (λ _. Bool) [ false ↦ true | true ↦ nat_le (p.start + p.len) (at + terms_in ps) ]) l) (inside-placed at ps)
      | true ↦ λ l. and_from _ _ (le_true _ _ (omega arith)) (inside-more (at + p.len + terms_in ps) (at + (p.len + terms_in ps)) (placed (at + p.len) ps) (omega arith) (inside-placed (at + p.len) ps))
    ] refl

-- a run behind a front
run-behind : (front xs rest : List Term) (n : ℕ) → length xs ≡ n → take n (drop (length front) (front ++ (xs ++ rest))) ≡ xs
run-behind front xs rest n e = ap (take n) (drop-append_seam front (xs ++ rest)) ∙ ap (λ k. take k (xs ++ rest)) (sym e) ∙ take-append_seam xs rest

-- gathered lists are the lists
pub list-gathered : (front terms : List Term) (ps : List Place) (k : ℕ) → are_inside (length terms) ps ≡ true
    → list_in (front ++ gathered terms ps) (placed (length front) ps) k ≡ list_in terms ps k
list-gathered front terms [] k e = refl
list-gathered front terms (p ∷ ps) zero e =
    elim p.live as (λ b. p.live ≡ b → list_in (front ++ elim b as (λ _. List Term) [ false ↦ gathered terms ps | true ↦ run_of terms p ++ gathered terms ps ])
    (elim b as (λ _. List Place) [ false ↦ p ∷ placed (length front) ps | true ↦ record { live = true; start = length front; len = p.len } ∷ placed (length front + p.len) ps ]) 0
    ≡ elim b as (λ _. Option (List Term)) [ false ↦ None | true ↦ Some (run_of terms p) ]) [
      | false ↦ λ l. ap (λ b. elim b as (λ _. Option (List Term)) [ false ↦ None | true ↦ Some (run_of (front ++ gathered terms ps) p) ]) l
      | true ↦ λ l. ap Some (run-behind front (run_of terms p) (gathered terms ps) p.len (run-length terms p (inside-live _ p (and_parts _ _ e).0 l)))
    ] refl
list-gathered front terms (p ∷ ps) (suc k) e =
    let rest = (and_parts (is_inside (length terms) p) _ e).1 in
    elim p.live as (λ b. p.live ≡ b → list_in (front ++ elim b as (λ _. List Term) [ false ↦ gathered terms ps | true ↦ run_of terms p ++ gathered terms ps ])
    (elim b as (λ _. List Place) [ false ↦ p ∷ placed (length front) ps | true ↦ record { live = true; start = length front; len = p.len } ∷ placed (length front + p.len) ps ]) (suc k)
    ≡ list_in terms ps k) [
      | false ↦ λ l. list-gathered front terms ps k rest
      | true ↦ λ l.
          let here = run-length terms p (inside-live _ p (and_parts _ _ e).0 l) in
          let ends : length (front ++ run_of terms p) ≡ length front + p.len = length-append front (run_of terms p) ∙ ap (λ n. length front + n) here in
          (λ i. list_in (sym (append_assoc front (run_of terms p) (gathered terms ps)) i) (placed (sym ends i) ps) k)
          ∙ list-gathered (front ++ run_of terms p) terms ps k rest
    ] refl

-- ---- setting a place
pub list-set_here : (terms : List Term) (ps : List Place) (k : ℕ) (p : Place) → k < length ps → list_in terms (set ps k p) k ≡ run_at terms p
list-set_here terms [] k p lt = absurd (omega arith)
list-set_here terms (q ∷ ps) zero p lt = refl
list-set_here terms (q ∷ ps) (suc k) p lt = list-set_here terms ps k p (omega arith)

pub list-set_other : (terms : List Term) (ps : List Place) (k j : ℕ) (p : Place) → j ≢ k → list_in terms (set ps k p) j ≡ list_in terms ps j
list-set_other terms [] k j p n = refl
list-set_other terms (q ∷ ps) zero zero p n = absurd (n refl)
list-set_other terms (q ∷ ps) zero (suc j) p n = refl
list-set_other terms (q ∷ ps) (suc k) zero p n = refl
list-set_other terms (q ∷ ps) (suc k) (suc j) p n = list-set_other terms ps k j p (λ e. n (ap suc e))

pub units-set : (ps : List Place) (k : ℕ) (p : Place) → k < length ps → units (set ps k p) + units_of (get_or ps k nowhere) ≡ units ps + units_of p
units-set [] k p lt = absurd (omega arith)
units-set (q ∷ ps) zero p lt =
    let here : (p : Place) → units (p ∷ ps) ≡ units_of p + units ps = λ p. elim p.live as (λ b. elim b as (λ _. ℕ) [ false ↦ units ps | true ↦ p.len + 1 + units ps ] ≡ elim b as (λ _. ℕ) [ false ↦ 0 | true ↦ p.len + 1 ] + units ps) [ false ↦ omega arith | true ↦ omega arith ] in
    omega (arith, here p, here q)
units-set (q ∷ ps) (suc k) p lt =
    let here : (xs : List Place) → units (q ∷ xs) ≡ units_of q + units xs = λ xs. elim q.live as (λ b. elim b as (λ _. ℕ) [ false ↦ units xs | true ↦ q.len + 1 + units xs ] ≡ elim b as (λ _. ℕ) [ false ↦ 0 | true ↦ q.len + 1 ] + units xs) [ false ↦ omega arith | true ↦ omega arith ] in
    omega (arith, here (set ps k p), here ps, units-set ps k p (omega arith))

pub inside-set : (n : ℕ) (ps : List Place) (k : ℕ) (p : Place) → are_inside n ps ≡ true → is_inside n p ≡ true → are_inside n (set ps k p) ≡ true
inside-set n [] k p e h = refl
inside-set n (q ∷ ps) zero p e h = and_from _ _ h (and_parts (is_inside n q) _ e).1
inside-set n (q ∷ ps) (suc k) p e h = and_from _ _ (and_parts (is_inside n q) _ e).0 (inside-set n ps k p (and_parts (is_inside n q) _ e).1 h)

pub inside-up : (m n : ℕ) (ps : List Place) → m ≤ n → are_inside m ps ≡ true → are_inside n ps ≡ true
inside-up = inside-more

pub inside-get : (n : ℕ) (ps : List Place) (k : ℕ) → are_inside n ps ≡ true → is_inside n (get_or ps k nowhere) ≡ true
inside-get n [] k e = refl
inside-get n (q ∷ ps) zero e = (and_parts _ _ e).0
inside-get n (q ∷ ps) (suc k) e = inside-get n ps k (and_parts (is_inside n q) _ e).1

-- more terms behind
pub list-behind : (terms more : List Term) (ps : List Place) (k : ℕ) → are_inside (length terms) ps ≡ true → list_in (terms ++ more) ps k ≡ list_in terms ps k
list-behind terms more ps k e = one (get_or ps k nowhere) (inside-get _ ps k e)
  where
    shorter : (n s : ℕ) (xs ys : List Term) → s + n ≤ length xs → take n (drop s (xs ++ ys)) ≡ take n (drop s xs)
    shorter n zero xs ys le = take-append-le n xs ys (omega arith)
    shorter zero (suc s) [] ys le = refl
    shorter (suc n) (suc s) [] ys le = absurd (omega arith)
    shorter n (suc s) (x ∷ xs) ys le = shorter n s xs ys (omega arith)

    one : (p : Place) → is_inside (length terms) p ≡ true → run_at (terms ++ more) p ≡ run_at terms p
    one p =
        elim p.live as (λ b. elim b as (λ _. Bool) [ false ↦ true | true ↦ nat_le (p.start + p.len) (length terms) ] ≡ true → elim b as (λ _. Option (List Term)) [ false ↦ None | true ↦ Some (run_of (terms ++ more) p) ] ≡ elim b as (λ _. Option (List Term)) [ false ↦ None | true ↦ Some (run_of terms p) ]) [
          | false ↦ λ e. refl
          | true ↦ λ e. ap Some (shorter p.len p.start terms more (le_of _ _ e))
        ]

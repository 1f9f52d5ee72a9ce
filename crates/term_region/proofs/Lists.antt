-- Lists of terms that stand as runs.
use Rattle.std.proofs.Common.{◌≡◌, ◌≢◌, ℕ, ◌+◌, ◌<◌, ◌≤◌, zero, suc, List, [], ◌∷◌, ◌++◌, length, take, drop, get_or, refl, sym, ◌∙◌, ap, Bool, true, false, arith, length-take, length-drop, length-append}
use Rattle.std.specs.Prelude.{Option, Some, None}
use Rattle.std.specs.FinMap.{get, insert, remove}
use Rattle.std.proofs.lemmas.List as lists
use Rattle.poly_model.specs.declared.term.Term.{Term}
use Rattle.term_store.specs.declared.space.Place.{Place}
use Rattle.term_store.specs.Runs as store
use Rattle.term_store.proofs.Places as places
use Rattle.term_store.proofs.Seating as seating
use Rattle.term_store.specs.States.{IsLive, list_at, list_or_none}
use Rattle.term_region.specs.declared.run.Run.{Run}
use Rattle.term_region.specs.Pool.{run_at, seen, places_of, list_of}
use Rattle.term_region.proofs.Sums.{both}

-- ---- the store's view
pub places-at : (rs : List Run) (k : ℕ) → get_or (places_of rs) k store.nowhere ≡ seen (run_at rs k)
places-at [] k = refl
places-at (r ∷ rs) zero = refl
places-at (r ∷ rs) (suc k) = places-at rs k

pub list-seen : (terms : List Term) (rs : List Run) (k : ℕ) → store.list_in terms (places_of rs) k ≡ list_of terms rs k
list-seen terms rs k = ap (store.run_at terms) (places-at rs k)

pub list-none : (xs : List Term) (a : Run) → a.live ≡ false → store.run_at xs (seen a) ≡ None
list-none xs a l = ap (λ b. elim b as (λ _. Option (List Term)) [ false ↦ None | true ↦ Some (take a.len (drop a.start xs)) ]) l

pub list-some : (xs : List Term) (a : Run) → a.live ≡ true → store.run_at xs (seen a) ≡ Some (take a.len (drop a.start xs))
list-some xs a l = ap (λ b. elim b as (λ _. Option (List Term)) [ false ↦ None | true ↦ Some (take a.len (drop a.start xs)) ]) l

pub same-list : (xs ys : List Term) (a b : Run) → a.live ≡ b.live → (b.live ≡ true → take a.len (drop a.start xs) ≡ take b.len (drop b.start ys))
    → store.run_at xs (seen a) ≡ store.run_at ys (seen b)
same-list xs ys a b l h = by b.live refl
  where
    by : (c : Bool) → b.live ≡ c → store.run_at xs (seen a) ≡ store.run_at ys (seen b)
    by false e = list-none xs a (l ∙ e) ∙ sym (list-none ys b e)
    by true e = list-some xs a (l ∙ e) ∙ ap Some (h e) ∙ sym (list-some ys b e)

-- ---- runs of the same terms
run-length : (xs : List Term) (s n : ℕ) → s + n ≤ length xs → length (take n (drop s xs)) ≡ n
run-length xs s n le = simp (length-take, length-drop) (omega arith)

pub run-same : (xs ys : List Term) (s t n : ℕ) → s + n ≤ length xs → t + n ≤ length ys → ((m : ℕ) (d : Term) → m < n → get_or xs (s + m) d ≡ get_or ys (t + m) d)
    → take n (drop s xs) ≡ take n (drop t ys)
run-same xs ys s t n a b h =
    lists.same_lists _ _ (run-length xs s n a ∙ sym (run-length ys t n b)) (λ m d lt.
    let below : m < n = omega (arith, run-length xs s n a) in
    lists.get_or-take n (drop s xs) m d below ∙ lists.get_or-drop s xs m d ∙ h m d below
    ∙ sym (lists.get_or-take n (drop t ys) m d below ∙ lists.get_or-drop t ys m d))

-- ---- the lists of a region
pub lists-get : (terms : List Term) (rs : List Run) (k : ℕ) → get (store.lists_of terms (places_of rs)) k ≡ list_of terms rs k
lists-get terms rs k = places.get-lists terms (places_of rs) k ∙ list-seen terms rs k

pub lists-set : (terms new : List Term) (rs qs : List Run) (k : ℕ) (xs : List Term) → list_of new qs k ≡ Some xs
    → ((j : ℕ) → j ≢ k → list_of new qs j ≡ list_of terms rs j) → store.lists_of new (places_of qs) ≡ insert (store.lists_of terms (places_of rs)) k xs
lists-set terms new rs qs k xs here others =
    places.lists-set terms new (places_of rs) (places_of qs) k xs (list-seen new qs k ∙ here) (λ j n. list-seen new qs j ∙ others j n ∙ sym (list-seen terms rs j))

pub lists-unset : (terms new : List Term) (rs qs : List Run) (k : ℕ) → list_of new qs k ≡ None
    → ((j : ℕ) → j ≢ k → list_of new qs j ≡ list_of terms rs j) → store.lists_of new (places_of qs) ≡ remove (store.lists_of terms (places_of rs)) k
lists-unset terms new rs qs k here others =
    places.lists-unset terms new (places_of rs) (places_of qs) k (list-seen new qs k ∙ here) (λ j n. list-seen new qs j ∙ others j n ∙ sym (list-seen terms rs j))

-- ---- what is known of a live slot
pub live-run : (terms : List Term) (rs : List Run) (k : ℕ) → IsLive (store.lists_of terms (places_of rs)) k → (run_at rs k).live ≡ true
live-run terms rs k e = ap (λ (p : Place). p.live) (sym (places-at rs k)) ∙ seating.live-place terms (places_of rs) k e

pub live-terms : (terms : List Term) (rs : List Run) (k : ℕ) → IsLive (store.lists_of terms (places_of rs)) k
    → list_at (store.lists_of terms (places_of rs)) k ≡ take (run_at rs k).len (drop (run_at rs k).start terms)
live-terms terms rs k e = seating.live-run terms (places_of rs) k e ∙ ap (store.run_of terms) (places-at rs k)

pub live-length : (terms : List Term) (rs : List Run) (k : ℕ) → (run_at rs k).start + (run_at rs k).len ≤ length terms → IsLive (store.lists_of terms (places_of rs)) k
    → length (list_at (store.lists_of terms (places_of rs)) k) ≡ (run_at rs k).len
live-length terms rs k le e = ap length (live-terms terms rs k e) ∙ run-length terms (run_at rs k).start (run_at rs k).len le

pub live-item : (terms : List Term) (rs : List Run) (k i : ℕ) (d : Term) → i < (run_at rs k).len → IsLive (store.lists_of terms (places_of rs)) k
    → get_or (list_at (store.lists_of terms (places_of rs)) k) i d ≡ get_or terms ((run_at rs k).start + i) d
live-item terms rs k i d lt e =
    ap (λ l. get_or l i d) (live-terms terms rs k e) ∙ lists.get_or-take (run_at rs k).len (drop (run_at rs k).start terms) i d lt ∙ lists.get_or-drop (run_at rs k).start terms i d

pub dead-slot : (terms : List Term) (rs : List Run) (k : ℕ) → (run_at rs k).live ≡ false → IsLive (store.lists_of terms (places_of rs)) k → ⊥
dead-slot terms rs k dead e = both (run_at rs k).live (live-run terms rs k e) dead

-- a new list
pub lists-fresh : (terms new : List Term) (rs qs : List Run) (k n m : ℕ) → run_at qs k ≡ record { live = true; start = n; len = 0; rank = m }
    → ((j : ℕ) → j ≢ k → list_of new qs j ≡ list_of terms rs j) → store.lists_of new (places_of qs) ≡ insert (store.lists_of terms (places_of rs)) k []
lists-fresh terms new rs qs k n m here others = lists-set terms new rs qs k [] (ap (λ r. store.run_at new (seen r)) here) others

-- a list of one term more
pub lists-pushed : (terms mid new : List Term) (rs ms qs : List Run) (k : ℕ) (t : Term) → ((j : ℕ) → list_of mid ms j ≡ list_of terms rs j)
    → (run_at ms k).live ≡ true → (run_at ms k).start + (run_at ms k).len ≡ length mid → new ≡ mid ++ t ∷ []
    → run_at qs k ≡ record (run_at ms k) { len = (run_at ms k).len + 1 } → ((j : ℕ) → j ≢ k → run_at qs j ≡ run_at ms j)
    → ((j : ℕ) → j ≢ k → (run_at ms j).live ≡ true → (run_at ms j).start + (run_at ms j).len ≤ length mid)
    → store.lists_of new (places_of qs) ≡ insert (store.lists_of terms (places_of rs)) k (list_at (store.lists_of terms (places_of rs)) k ++ t ∷ [])
lists-pushed terms mid new rs ms qs k t same live end made here others inside =
    let r = run_at ms k in
    let old : list_at (store.lists_of terms (places_of rs)) k ≡ take r.len (drop r.start mid) =
    ap list_or_none (lists-get terms rs k ∙ sym (same k) ∙ list-some mid r live) in
    lists-set terms new rs qs k _
    (ap (λ x. store.run_at new (seen x)) here ∙ list-some new (record r { len = r.len + 1 }) live
    ∙ ap (λ l. Some (take (r.len + 1) (drop r.start l))) made
    ∙ ap Some (seating.last-longer mid (seen r) t (seating.last-of (length mid) (seen r) live end))
    ∙ ap (λ l. Some (l ++ t ∷ [])) (sym old))
    (λ j n. ap (λ x. store.run_at new (seen x)) (others j n) ∙ ap (λ l. store.run_at l (seen (run_at ms j))) made
    ∙ same-list (mid ++ t ∷ []) mid (run_at ms j) (run_at ms j) refl (λ l.
    run-same (mid ++ t ∷ []) mid (run_at ms j).start (run_at ms j).start (run_at ms j).len (omega (arith, inside j n l, length-append mid (t ∷ []))) (inside j n l)
    (λ x d lt. lists.get_or_append_left mid (t ∷ []) d ((run_at ms j).start + x) (omega (arith, inside j n l))))
    ∙ same j)

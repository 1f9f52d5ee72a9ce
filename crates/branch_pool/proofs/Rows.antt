-- How the lists of lanes and their ends grow and change.
use Rattle.std.proofs.Common.{◌≡◌, ℕ, ◌+◌, ◌-◌, ◌<◌, zero, suc, List, [], ◌∷◌, ◌++◌, length, get_or, take, drop, map, set, refl, sym, ap, ◌∙◌, arith, length-drop, ◌≤◌, ◌≢◌, add-one, Option, Some, None, MatchOption, append_assoc}
use Rattle.std.specs.List.{remove, take-map, drop-map}
use Rattle.std.proofs.lemmas.Bool.Decides.{nat_tests}
use Rattle.std.proofs.Math.Seq.{take-length}
use Rattle.std.proofs.lemmas.List.{map-append, length-map}
use Rattle.std.proofs.lemmas.Option.{slice_get-get_or}
use Rattle.branch_pool.specs.Deques.{End, new_end, took_at}
use Rattle.branch_pool.specs.Views.{View, view_is, door_to, Steals, new_lane, lanes_from}

set_same : {A : Type 0} (xs : List A) (i : ℕ) (x : A) → i < length xs → x ≡ get_or xs i x → set xs i x ≡ xs
set_same [] i x within e = absurd (omega arith)
set_same (y ∷ xs) zero x within e = ap (λ z. z ∷ xs) e
set_same (y ∷ xs) (suc i) x within e = ap (λ l. y ∷ l) (set_same xs i x (omega arith) e)

all_of : {A : Type 0} (n : ℕ) (xs : List A) → n ≡ length xs → take n xs ≡ xs
all_of n xs e = rw e (take-length xs)

module _ {I : Type 0} where
  -- a steal through the door that leads to a lane
  pub stolen : (v : View I) (at from : ℕ) (e new : End I) (r : Option I) → at ≡ door_to v.place from → at < length v.doors → e ≡ get_or v.doors at e
      → MatchOption r (new ≡ e) (λ x. new ≡ took_at x e)
      → MatchOption r (view_is v.own (set v.doors at new) v.place ≡ v) (λ x. Steals v from x (view_is v.own (set v.doors at new) v.place))
  stolen v at from e new None to within is h =
      let same : set v.doors at new ≡ v.doors = rw h (set_same v.doors at e within is) in
      ap (λ l. view_is v.own l v.place) same
  stolen v at from e new (Some x) to within is h =
      let there : get_or v.doors at e ≡ e = sym is in
      (e, rw (← to) (slice_get-get_or v.doors at e within ∙ ap (λ d. Some d) there), rw (h, to) refl)

  -- the doors to all deques but one
  pub beside : {D : Type 0} (f : D → End I) (doors : List D) (place : ℕ) (none one two : List (End I)) → none ≡ []
      → one ≡ none ++ map f (take place doors) → two ≡ one ++ map f (take (length doors - (place + 1)) (drop (place + 1) doors)) → two ≡ map f (remove doors place)
  beside f doors place none one two e h k =
      let all : take (length doors - (place + 1)) (drop (place + 1) doors) ≡ drop (place + 1) doors = all_of (length doors - (place + 1)) (drop (place + 1) doors) (sym (length-drop (place + 1) doors)) in
      let next : place + 1 ≡ suc place = add-one place in
      let first : one ≡ map f (take place doors) = rw e at h in
      k ∙ (λ i. first i ++ map f (all i)) ∙ sym (map-append f (take place doors) (drop (place + 1) doors)) ∙ ap (λ n. map f (take place doors ++ drop n doors)) next

  map_again : (ends : List (End I)) → map (λ (e : End I). new_end {I = I} e.deque) (map (λ (e : End I). new_end {I = I} e.deque) ends) ≡ map (λ (e : End I). new_end {I = I} e.deque) ends
  map_again [] = refl
  map_again (e ∷ ends) = ap (λ l. new_end e.deque ∷ l) (map_again ends)

  removed_map : (f : End I → End I) (ends : List (End I)) (i : ℕ) → remove (map f ends) i ≡ map f (remove ends i)
  removed_map f ends i = (λ j. take-map f i ends j ++ drop-map f (suc i) ends j) ∙ sym (map-append f (take i ends) (drop (suc i) ends))

  same_doors : (doors owners : List (End I)) (place : ℕ) → doors ≡ map (λ o. new_end o.deque) owners
      → map (λ (e : End I). new_end {I = I} e.deque) (remove doors place) ≡ map (λ (e : End I). new_end {I = I} e.deque) (remove owners place)
  same_doors doors owners place e = rw e (ap (λ l. map (λ (e : End I). new_end {I = I} e.deque) l) (removed_map (λ o. new_end o.deque) owners place) ∙ map_again (remove owners place))

  -- the lanes know as much of the doors as of the owners
  pub by_owners : (doors owners : List (End I)) → doors ≡ map (λ o. new_end o.deque) owners → (rest : List (End I)) (place : ℕ) → lanes_from doors place rest ≡ lanes_from owners place rest
  by_owners doors owners e [] place = refl
  by_owners doors owners e (own ∷ rest) place =
      λ i. view_is own (same_doors doors owners place e i) place ∷ by_owners doors owners e rest (suc place) i

  pub lanes_snoc : (doors : List (End I)) (place : ℕ) (xs : List (End I)) (x : End I) (n : ℕ) → n ≡ place + length xs
      → lanes_from doors place (xs ++ x ∷ []) ≡ lanes_from doors place xs ++ new_lane doors n x ∷ []
  lanes_snoc doors place [] x n e = let here : place ≡ n = omega arith in ap (λ k. new_lane doors k x ∷ []) here
  lanes_snoc doors place (y ∷ xs) x n e = ap (λ l. new_lane doors place y ∷ l) (lanes_snoc doors (suc place) xs x n (omega arith))

  pub more_lanes : (doors yielded : List (End I)) (own : End I) (lanes more : List (View I)) (place : ℕ) (beside : List (End I)) → lanes ≡ lanes_from doors 0 yielded → place ≡ length yielded
      → beside ≡ map (λ e. new_end e.deque) (remove doors place) → more ≡ lanes ++ view_is own beside place ∷ [] → more ≡ lanes_from doors 0 (yielded ++ own ∷ [])
  more_lanes doors yielded own lanes more place beside h at e k =
      k ∙ (λ i. h i ++ view_is own (e i) place ∷ []) ∙ sym (lanes_snoc doors 0 yielded own place (omega arith))

  -- the next of a list goes to those before it
  pub next_of : (yielded rest next : List (End I)) (own : End I) → rest ≡ own ∷ next → (yielded ++ own ∷ []) ++ next ≡ yielded ++ rest
  next_of yielded rest next own e = append_assoc yielded (own ∷ []) next ∙ ap (λ l. yielded ++ l) (sym e)

  pub lanes_many : (doors : List (End I)) (place : ℕ) (xs : List (End I)) → length (lanes_from doors place xs) ≡ length xs
  lanes_many doors place [] = refl
  lanes_many doors place (x ∷ xs) = ap suc (lanes_many doors (suc place) xs)

  pub as_many : (doors ys owners : List (End I)) → doors ≡ map (λ (o : End I). new_end {I = I} o.deque) ys → doors ≡ map (λ (o : End I). new_end {I = I} o.deque) owners → length ys ≡ length owners
  as_many doors ys owners e f =
      sym (length-map ys (λ (o : End I). new_end {I = I} o.deque)) ∙ ap length (sym e ∙ f) ∙ length-map owners (λ (o : End I). new_end {I = I} o.deque)

  pub empty : (xs : List (End I)) → length xs ≡ 0 → xs ≡ []
  empty [] e = refl
  empty (x ∷ xs) e = absurd (omega arith)

-- the door to another lane is there
pub through : (place from doors : ℕ) → from ≢ place → from ≤ doors → place ≤ doors → door_to place from < doors
through place from doors apart there within = grind (arith, nat_tests)

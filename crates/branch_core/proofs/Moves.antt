-- Lists in three parts, of which a part moves on.
use Rattle.std.proofs.Common.{◌≡◌, ℕ, ◌<◌, zero, suc, List, [], ◌∷◌, ◌++◌, length, get_or, sym, ap, subst, append_assoc, arith}
use Rattle.std.specs.List.{flat_map, remove}
use Rattle.std.specs.List.Sorted.{IsPermutation}
use Rattle.std.proofs.lemmas.List.{append-nil}
use Rattle.std.proofs.lemmas.List.Sorted.{IsPermutation-refl, IsPermutation-trans, IsPermutation-append_left, IsPermutation-append_right, IsPermutation-append_comm}

module _ {X : Type 0} where
  same : (xs ys : List X) → xs ≡ ys → IsPermutation xs ys
  same xs ys e = subst (IsPermutation xs) e (IsPermutation-refl xs)

  -- the first of three goes behind the others
  pub rotated : (a b c : List X) → IsPermutation ((a ++ b) ++ c) (b ++ (c ++ a))
  rotated a b c =
      IsPermutation-trans ((a ++ b) ++ c) ((b ++ c) ++ a) (b ++ (c ++ a))
      (IsPermutation-trans ((a ++ b) ++ c) (a ++ (b ++ c)) ((b ++ c) ++ a) (same _ _ (append_assoc a b c)) (IsPermutation-append_comm a (b ++ c)))
      (same _ _ (append_assoc b c a))

  -- the second of three goes to the front
  pub fronted : (a b c : List X) → IsPermutation (a ++ (b ++ c)) (b ++ (a ++ c))
  fronted a b c =
      IsPermutation-trans (a ++ (b ++ c)) ((b ++ a) ++ c) (b ++ (a ++ c))
      (IsPermutation-trans (a ++ (b ++ c)) ((a ++ b) ++ c) ((b ++ a) ++ c) (same _ _ (sym (append_assoc a b c))) (IsPermutation-append_left c (a ++ b) (b ++ a) (IsPermutation-append_comm a b)))
      (same _ _ (append_assoc b a c))

  -- from the waiting ones w to the held ones h
  pub moved : (d w w' h e : List X) → IsPermutation w (e ++ w') → IsPermutation (d ++ (w ++ h)) (d ++ (w' ++ (h ++ e)))
  moved d w w' h e p =
      IsPermutation-append_right d (w ++ h) (w' ++ (h ++ e))
      (IsPermutation-trans (w ++ h) ((e ++ w') ++ h) (w' ++ (h ++ e)) (IsPermutation-append_left h w (e ++ w') p) (rotated e w' h))

  -- back from the held ones
  pub waited : (d w h h' e : List X) → IsPermutation h (e ++ h') → IsPermutation (d ++ (w ++ h)) (d ++ ((w ++ e) ++ h'))
  waited d w h h' e p =
      IsPermutation-append_right d (w ++ h) ((w ++ e) ++ h')
      (IsPermutation-trans (w ++ h) (w ++ (e ++ h')) ((w ++ e) ++ h') (IsPermutation-append_right w h (e ++ h') p) (same _ _ (sym (append_assoc w e h'))))

  -- from the held ones to the done ones x and the waiting ones c
  pub parted : (d w h h' x c : List X) → IsPermutation h ((x ++ c) ++ h') → IsPermutation (d ++ (w ++ h)) ((d ++ x) ++ ((w ++ c) ++ h'))
  parted d w h h' x c p =
      let a : IsPermutation (w ++ h) (w ++ (x ++ (c ++ h'))) =
      IsPermutation-trans (w ++ h) (w ++ ((x ++ c) ++ h')) (w ++ (x ++ (c ++ h')))
      (IsPermutation-append_right w h ((x ++ c) ++ h') p) (same _ _ (ap (λ l. w ++ l) (append_assoc x c h'))) in
      let b : IsPermutation (w ++ h) (x ++ ((w ++ c) ++ h')) =
      IsPermutation-trans (w ++ h) (w ++ (x ++ (c ++ h'))) (x ++ ((w ++ c) ++ h')) a
      (IsPermutation-trans (w ++ (x ++ (c ++ h'))) (x ++ (w ++ (c ++ h'))) (x ++ ((w ++ c) ++ h')) (fronted w x (c ++ h'))
      (same _ _ (ap (λ l. x ++ l) (sym (append_assoc w c h'))))) in
      IsPermutation-trans (d ++ (w ++ h)) (d ++ (x ++ ((w ++ c) ++ h'))) ((d ++ x) ++ ((w ++ c) ++ h'))
      (IsPermutation-append_right d (w ++ h) (x ++ ((w ++ c) ++ h')) b) (same _ _ (sym (append_assoc d x ((w ++ c) ++ h'))))

  pub ended : (d w h h' x : List X) → IsPermutation h (x ++ h') → IsPermutation (d ++ (w ++ h)) ((d ++ x) ++ (w ++ h'))
  ended d w h h' x p =
      let none : x ++ [] ≡ x = append-nil x in
      let no : w ++ [] ≡ w = append-nil w in
      let q : IsPermutation h ((x ++ []) ++ h') = rw none p in
      let r = parted d w h h' x [] q in
      subst (λ (l : List X). IsPermutation (d ++ (w ++ h)) ((d ++ x) ++ (l ++ h'))) no r

  -- what a removed element brought goes to the front
  pub flat_map_remove : {A : Type 0} (f : A → List X) (xs : List A) (i : ℕ) (d : A) → i < length xs → IsPermutation (flat_map f xs) (f (get_or xs i d) ++ flat_map f (remove xs i))
  flat_map_remove f [] i d within = absurd (omega arith)
  flat_map_remove f (x ∷ xs) zero d within = IsPermutation-refl (f x ++ flat_map f xs)
  flat_map_remove f (x ∷ xs) (suc i) d within =
      IsPermutation-trans (f x ++ flat_map f xs) (f x ++ (f (get_or xs i d) ++ flat_map f (remove xs i))) (f (get_or xs i d) ++ (f x ++ flat_map f (remove xs i)))
      (IsPermutation-append_right (f x) (flat_map f xs) (f (get_or xs i d) ++ flat_map f (remove xs i)) (flat_map_remove f xs i d (omega arith)))
      (fronted (f x) (f (get_or xs i d)) (flat_map f (remove xs i)))

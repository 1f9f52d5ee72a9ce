-- The text of lines by the parts in which they are written.
use Rattle.std.proofs.Common.{◌≡◌, ◌<◌, ◌+◌, ℕ, suc, List, [], ◌∷◌, ◌++◌, length, map, take, drop, get_or, sym, ◌∙◌, ap, subst, arith, append_assoc}
use Rattle.std.specs.Prelude.{All}
use Rattle.std.specs.List.{flat_map}
use Rattle.desk_io.proofs.Writing.{pieces_more, pieces_split}
use Rattle.std.proofs.lemmas.List.{take_more, take-append-drop, map-append}

-- a row by its word, its fields, its rest and the end of the line
pub by_parts : (front word fields tail : List ℕ) → front ≡ word → word ++ (fields ++ tail) ++ 10 ∷ [] ≡ ((front ++ fields) ++ tail) ++ 10 ∷ []
by_parts front word fields tail e = ap (λ w. w ++ (fields ++ tail) ++ 10 ∷ []) (sym e) ∙ ap (λ t. t ++ 10 ∷ []) (sym (append_assoc front fields tail))

-- one more item of a list
pub map_more : {X : Type 0} (f : X → ℕ) (xs : List X) (i : ℕ) (d : X) → i < length xs → map f (take (i + 1) xs) ≡ map f (take i xs) ++ f (get_or xs i d) ∷ []
map_more f xs i d lt = ap (map f) (take_more xs i d lt) ∙ map-append f (take i xs) (get_or xs i d ∷ [])

pub map_split : {X : Type 0} (f : X → ℕ) (xs : List X) (i : ℕ) (d : X) → i < length xs
    → map f xs ≡ map f (take i xs) ++ (f (get_or xs i d) ∷ []) ++ map f (drop (i + 1) xs)
map_split f xs i d lt =
    ap (map f) (sym (take-append-drop (i + 1) xs)) ∙ map-append f (take (i + 1) xs) (drop (i + 1) xs) ∙ ap (λ l. l ++ map f (drop (i + 1) xs)) (map_more f xs i d lt)

-- what holds of all holds of all but the first
pub all_others : {X : Type 0} (P : X → Type 0) (xs ys : List X) (x : X) → xs ≡ x ∷ ys → All P xs → All P ys
all_others P xs ys x e h = λ k d lt. subst (All P) e h (suc k) d (omega (arith, lt))

-- the texts of the items before one, its own, and those of the items behind it
module _ {X : Type 0} (text : X → List ℕ) (xs : List X) (i : ℕ) (item : X) where
  pub item_more : i < length xs → item ≡ get_or xs i item → flat_map text (take (i + 1) xs) ≡ flat_map text (take i xs) ++ text item
  item_more lt is = pieces_more text xs i item lt ∙ ap (λ x. flat_map text (take i xs) ++ text x) (sym is)

  pub item_split : i < length xs → item ≡ get_or xs i item → flat_map text xs ≡ flat_map text (take i xs) ++ text item ++ flat_map text (drop (i + 1) xs)
  item_split lt is = pieces_split text xs i item lt ∙ ap (λ x. flat_map text (take i xs) ++ text x ++ flat_map text (drop (i + 1) xs)) (sym is)

pub all_first : {X : Type 0} (P : X → Type 0) (xs ys : List X) (x : X) → xs ≡ x ∷ ys → All P xs → P x
all_first P xs ys x e h = subst (All P) e h 0 x (omega arith)

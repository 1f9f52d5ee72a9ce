-- The text of a list of items, cut at one of them.
use Rattle.std.proofs.Common.{◌≡◌, ℕ, ◌+◌, ◌<◌, List, ◌++◌, length, get_or, take, drop, sym, subst}
use Rattle.std.specs.Prelude.{flat_map}
use Rattle.desk_io.proofs.Writing.{pieces_more, pieces_split}

module _ {X : Type 0} (piece : X → List ℕ) (xs : List X) (i : ℕ) (x : X) (within : i < length xs) (is : x ≡ get_or xs i x) where
  -- the pieces of one more item
  pub item-more : flat_map piece (take (i + 1) xs) ≡ flat_map piece (take i xs) ++ piece x
  item-more = subst (λ (y : X). flat_map piece (take (i + 1) xs) ≡ flat_map piece (take i xs) ++ piece y) (sym is) (pieces_more piece xs i x within)

  -- the pieces before an item, its own, and those behind it
  pub item-split : flat_map piece xs ≡ flat_map piece (take i xs) ++ piece x ++ flat_map piece (drop (i + 1) xs)
  item-split = subst (λ (y : X). flat_map piece xs ≡ flat_map piece (take i xs) ++ piece y ++ flat_map piece (drop (i + 1) xs)) (sym is) (pieces_split piece xs i x within)

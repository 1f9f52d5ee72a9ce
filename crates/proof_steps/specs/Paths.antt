-- When two paths are the same, and which of two stands first in preorder.
use Rattle.std.specs.Prelude.{List, [], ◌∷◌, Bool, true, false, ◌&&◌, not}
use Rattle.std.specs.declared.cmp.Ordering.{Ordering}
use Rattle.std.specs.Ordering.{bool_cmp}
use Rattle.std.specs.Cmp.Lexicographic.{slice_cmp}

-- The same letters.
abbrev pub same_path : List Bool → List Bool → Bool
same_path [] [] = true
same_path [] (b ∷ bs) = false
same_path (a ∷ as') [] = false
same_path (true ∷ as') (b ∷ bs) = b && same_path as' bs
same_path (false ∷ as') (b ∷ bs) = not b && same_path as' bs

-- `+` before `-`.
abbrev pub letter_cmp : Bool → Bool → Ordering
letter_cmp a b = bool_cmp b a

-- The first letter that differs decides, and a path stands before those below it.
abbrev pub preorder_cmp : List Bool → List Bool → Ordering
preorder_cmp p q = slice_cmp letter_cmp p q

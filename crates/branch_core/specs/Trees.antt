-- Trees whose nodes have a piece each, and two children or none; their pieces in preorder, and what stands at a path.
use Rattle.std.specs.Prelude.{List, [], ◌∷◌, ◌++◌, Bool, true, false, Option, Some, None}
use Rattle.std.specs.Option.{option_map}

pub data Tree (P : Type 0) : Type 0 where
  Leaf : P → Tree P
  Fork : P → Tree P → Tree P → Tree P

abbrev pub preorder : {P : Type 0} → Tree P → List P
preorder (Leaf x) = x ∷ []
preorder (Fork x s t) = x ∷ (preorder s ++ preorder t)

-- the tree below a path
abbrev pub below : {P : Type 0} → Tree P → List Bool → Option (Tree P)
below t [] = Some t
below (Leaf x) (b ∷ p) = None
below (Fork x s t) (true ∷ p) = below s p
below (Fork x s t) (false ∷ p) = below t p

-- a node's piece, and whether it has children
abbrev pub spot : {P : Type 0} → Tree P → P × Bool
spot (Leaf x) = (x, false)
spot (Fork x s t) = (x, true)

abbrev pub found : {P : Type 0} → Tree P → List Bool → Option (P × Bool)
found t p = option_map spot (below t p)

-- the pieces in preorder, each with its path, of a tree at a path
abbrev pub entries : {P : Type 0} → List Bool → Tree P → List (List Bool × P)
entries path (Leaf x) = (path, x) ∷ []
entries path (Fork x s t) = (path, x) ∷ (entries (path ++ true ∷ []) s ++ entries (path ++ false ∷ []) t)

abbrev pub entries_of : {P : Type 0} → List Bool → Option (Tree P) → List (List Bool × P)
entries_of path None = []
entries_of path (Some t) = entries path t

-- those of a tree at and below a path
abbrev pub entries_at : {P : Type 0} → Tree P → List Bool → List (List Bool × P)
entries_at t path = entries_of path (below t path)

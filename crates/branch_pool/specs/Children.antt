-- How an item's tree is made of its children's, and the pieces that a stack stands for.
use Rattle.std.specs.Prelude.{◌≡◌, ℕ, ◌+◌, ◌<◌, List, [], ◌∷◌, ◌++◌, Bool, true, false, length, Option, Some, None}
use Rattle.poly_model.specs.declared.limits.TheConstants.{MOST_LETTERS}
use Rattle.branch_core.specs.Trees.{Tree, Leaf, Fork, preorder, below}

-- x is the piece of the tree, and the two items, where they are there, have the trees of its children
abbrev pub Children : {I P : Type 0} → (I → Tree P) → Tree P → P → Option (I × I) → Type 0
Children tree t x None = t ≡ Leaf x
Children tree t x (Some p) = t ≡ Fork x (tree p.0) (tree p.1)

-- the two items have the paths of the children, which a path of the most letters does not have
abbrev pub Paths : {I : Type 0} → (I → List Bool) → List Bool → Option (I × I) → Type 0
Paths path p None = Unit {0}
Paths path p (Some q) = (path q.0 ≡ p ++ true ∷ []) × (path q.1 ≡ p ++ false ∷ []) × (length p < MOST_LETTERS)

-- the paths of the children, the first to be done last
abbrev pub children_of : List Bool → Bool → List (List Bool)
children_of p true = (p ++ false ∷ []) ∷ (p ++ true ∷ []) ∷ []
children_of p false = []

-- two items, the first to be done last
abbrev pub piled : {I : Type 0} → Option (I × I) → List I
piled None = []
piled (Some p) = p.1 ∷ p.0 ∷ []

-- what the entries of a stack stand for, the last first
abbrev pub stacked : {I P : Type 0} → (I → List P) → List I → List P
stacked f [] = []
stacked f (x ∷ xs) = stacked f xs ++ f x

abbrev pub pieces_of : {P : Type 0} → Option (Tree P) → List P
pieces_of None = []
pieces_of (Some t) = preorder t

-- the pieces at and below a path
abbrev pub pieces_at : {P : Type 0} → Tree P → List Bool → List P
pieces_at t p = pieces_of (below t p)

-- how many nodes a tree has
abbrev pub nodes : {P : Type 0} → Tree P → ℕ
nodes (Leaf x) = 1
nodes (Fork x s t) = 1 + (nodes s + nodes t)

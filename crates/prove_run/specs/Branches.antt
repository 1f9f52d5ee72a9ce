-- The tree that the order of work gives, as a tree of branches.
use Rattle.std.specs.Prelude.{ℕ, zero, suc, List, [], ◌∷◌}
use Rattle.poly_model.specs.Polynomial.{Polynomial}
use Rattle.proof_steps.specs.Trees.{expansion_of}
use Rattle.proof_steps.specs.declared.piece.Node.{Node}
use Rattle.proof_steps.specs.declared.piece.Piece.{Piece}
use Rattle.proof_steps.specs.declared.version.TheConstants.{VERSION}
use Rattle.branch_core.specs.Trees.{Tree, Leaf, Fork}

-- A piece with the trees of its children, which are none or two.
abbrev pub joined : (Node → Tree Piece) → Piece → List Node → Tree Piece
joined tree p [] = Leaf p
joined tree p (plus ∷ []) = Leaf p
joined tree p (plus ∷ minus ∷ []) = Fork p (tree plus) (tree minus)
joined tree p (plus ∷ minus ∷ n ∷ ns) = Leaf p

-- The recursion is on a number of splits that is not passed.
unfoldable pub branches_within : ℕ → List Polynomial → Node → Tree Piece
branches_within zero cons n = Leaf (expansion_of VERSION cons n).0
branches_within (suc k) cons n =
    let e = expansion_of VERSION cons n in
    joined (λ m. branches_within k cons m) e.0 e.1

-- The branches of a node. Each child has less fuel.
abbrev pub branches_of : List Polynomial → Node → Tree Piece
branches_of cons n = branches_within n.fuel cons n

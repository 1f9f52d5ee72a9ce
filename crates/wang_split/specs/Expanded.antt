-- What the work on a node gives.
use Rattle.std.specs.Prelude.{◌≡◌, List, [], ◌∷◌, Option, Some, None}
use Rattle.poly_model.specs.Polynomial.{Polynomial}
use Rattle.proof_steps.specs.Trees.{expansion_of}
use Rattle.proof_steps.specs.declared.piece.Node.{Node}
use Rattle.proof_steps.specs.declared.piece.Piece.{Piece}
use Rattle.proof_steps.specs.declared.step.Step.{Step}
use Rattle.tree_laws.proofs.Unfold.{prefixed}
use Rattle.proof_steps.specs.declared.version.TheConstants.{VERSION}

-- The children, as a list.
abbrev pub nodes_of : Option (Node × Node) → List Node
nodes_of None = []
nodes_of (Some pair) = pair.0 ∷ pair.1 ∷ []

-- After these steps the piece and the children are those of the node that is left.
abbrev pub Rests : List Polynomial → Node → List Step → Piece × Option (Node × Node) → Type 0
Rests cons here steps e = (e.0 ≡ prefixed steps (expansion_of VERSION cons here).0) × (nodes_of e.1 ≡ (expansion_of VERSION cons here).1)

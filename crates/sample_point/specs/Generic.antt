-- The conditions of a verdict are conditions of the generic leaf.
use Rattle.std.specs.Prelude.{◌≡◌, ℕ, List, Some, IsTrue}
use Rattle.poly_model.specs.Domain.{Operations}
use Rattle.poly_model.specs.Polynomial.{Polynomial}
use Rattle.poly_model.specs.Zeros.{NoneZero}
use Rattle.proof_steps.specs.Trees.{is_tree_of}
use Rattle.proof_steps.specs.Leaves.{SomeOf, is_listed}
use Rattle.proof_steps.specs.declared.piece.Piece.{Piece}
use Rattle.proof_steps.specs.declared.problem.Problem.{Problem}
use Rattle.verdicts.specs.Verdicts.{generic_leaf, conditions}

-- The polynomial is in the list.
abbrev pub IsIn : Polynomial → List Polynomial → Type 0
IsIn q = SomeOf (λ p. p ≡ q)

-- Each condition of a verdict is one of the generic leaf, where that is listed.
abbrev pub ConditionsAreKnown : Type 0
ConditionsAreKnown = (version : ℕ) (problem : Problem) (fuel : ℕ) (pieces : List Piece) (leaf : Piece) → IsTrue (is_tree_of version problem fuel pieces)
    → generic_leaf pieces ≡ Some leaf → IsTrue (is_listed leaf.outcome)
    → (q : Polynomial) → IsIn q (conditions pieces) → IsIn q leaf.nes

-- So none of them is zero where none of the leaf's is.
abbrev pub ConditionsHold : {M : Type 0} → Operations M → Type 0
ConditionsHold {M} o = (version : ℕ) (problem : Problem) (fuel : ℕ) (pieces : List Piece) (leaf : Piece) → IsTrue (is_tree_of version problem fuel pieces)
    → generic_leaf pieces ≡ Some leaf → IsTrue (is_listed leaf.outcome)
    → (point : List M) → NoneZero o leaf.nes point → NoneZero o (conditions pieces) point

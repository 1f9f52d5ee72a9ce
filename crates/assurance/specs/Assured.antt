-- What a valid tree assures: over the operations of a domain, and of its polynomials.
use Rattle.std.specs.Prelude.{◌≡◌, ℕ, List, Bool, IsTrue}
use Rattle.std.specs.List.{list_all}
use Rattle.poly_model.specs.Domain.{Operations}
use Rattle.poly_model.specs.Polynomial.{Polynomial, is_over}
use Rattle.proof_steps.specs.Trees.{is_tree_of}
use Rattle.proof_steps.specs.declared.piece.Piece.{Piece}
use Rattle.proof_steps.specs.declared.problem.Problem.{Problem}
use Rattle.verdicts.specs.Verdicts.{verdict_of}
use Rattle.verdicts.specs.Tallies.{no_tally, tally_of, verdict_told}
use Rattle.verdicts.specs.Claims.{Covers, Claims}
use Rattle.assurance.specs.Polynomials.{of_tree, of_verdict}

-- The leaves of each valid tree cover its root.
abbrev pub TreesCover : {M : Type 0} → Operations M → Type 0
TreesCover o = (version : ℕ) (problem : Problem) (fuel : ℕ) (pieces : List Piece) → IsTrue (is_tree_of version problem fuel pieces)
    → Covers o problem pieces

-- What the verdict of each valid tree claims is so.
abbrev pub VerdictsHold : {M : Type 0} → Operations M → Type 0
VerdictsHold o = (version : ℕ) (problem : Problem) (fuel : ℕ) (pieces : List Piece) → IsTrue (is_tree_of version problem fuel pieces)
    → Claims o problem (verdict_of pieces)

-- Only the first n variables occur in each polynomial.
abbrev pub all_over : ℕ → List Polynomial → Bool
all_over n = list_all (is_over n)

-- Where only the first n variables occur in a problem, only they occur in each valid tree of it and in the verdict.
abbrev pub TreesKeepVariables : Type 0
TreesKeepVariables = (version n : ℕ) (problem : Problem) (fuel : ℕ) (pieces : List Piece) → IsTrue (all_over n problem.hyps) → IsTrue (all_over n problem.cons)
    → IsTrue (is_tree_of version problem fuel pieces) → IsTrue (all_over n (of_tree pieces)) × IsTrue (all_over n (of_verdict (verdict_of pieces)))

-- The tally of the pieces of each valid tree tells its verdict.
abbrev pub TalliesTell : Type 0
TalliesTell =
    (version : ℕ) (problem : Problem) (fuel : ℕ) (pieces : List Piece) → IsTrue (is_tree_of version problem fuel pieces)
    → verdict_told (tally_of no_tally pieces) ≡ verdict_of pieces

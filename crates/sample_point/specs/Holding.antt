-- What a found point shows, over the whole numbers.
use Rattle.std.specs.Prelude.{◌≡◌, ◌≢◌, ℕ, ℤ, pos, List, Some, IsTrue}
use Rattle.poly_model.specs.Domain.{integers}
use Rattle.poly_model.specs.Polynomial.{Polynomial, value_at}
use Rattle.poly_model.specs.Zeros.{AllZero, IsZero}
use Rattle.proof_steps.specs.Numbers.{item}
use Rattle.proof_steps.specs.Trees.{is_tree_of}
use Rattle.proof_steps.specs.declared.piece.Piece.{Piece}
use Rattle.proof_steps.specs.declared.problem.Problem.{Problem}
use Rattle.verdicts.specs.Verdicts.{conditions, verdict_of}
use Rattle.verdicts.specs.declared.verdict.Verdict.{Verdict}
use Rattle.verdicts.specs.declared.verdict.Verdict.TheVariants as verdict
use Rattle.sample_point.specs.Value.{value_in}
use Rattle.sample_point.specs.Sampling.{found_of}
use Rattle.sample_point.specs.declared.found.Found.{Found}
use Rattle.sample_point.specs.declared.found.Found.TheVariants as found

-- A value in bounds is the value.
abbrev pub ValuesAreRight : Type 0
ValuesAreRight = (p : Polynomial) (point : List ℤ) (z : ℤ) → value_in p point ≡ Some z → value_at integers p point ≡ z

-- At the point that is found the hypotheses are zero, no condition of the verdict is, and the conclusions are zero; or the
-- one that is named is not.
abbrev pub Shows : Problem → List Piece → Found → Type 0
Shows problem pieces (found.Sample point) = IsZero integers problem.hyps (conditions pieces) point × AllZero integers problem.cons point
Shows problem pieces (found.Refuted k point) =
    IsZero integers problem.hyps (conditions pieces) point × (value_at integers (item problem.cons k) point ≢ pos 0)
Shows problem pieces found.Nothing = Unit {0}

-- What is found of each valid tree is shown by its point.
abbrev pub FoundsShow : Type 0
FoundsShow = (version : ℕ) (problem : Problem) (fuel : ℕ) (pieces : List Piece) → IsTrue (is_tree_of version problem fuel pieces)
    → Shows problem pieces (found_of problem pieces)

-- The verdict proves the conclusions, if need be under conditions.
abbrev pub Proves : Verdict → Type 0
Proves verdict.Proved = Unit {0}
Proves (verdict.Under cs) = Unit {0}
Proves (verdict.NotProved path k r) = ⊥
Proves (verdict.Degenerate path) = ⊥
Proves (verdict.Left path reason) = ⊥

-- What is proved is not refuted.
abbrev pub ProvedIsNotRefuted : Type 0
ProvedIsNotRefuted = (version : ℕ) (problem : Problem) (fuel : ℕ) (pieces : List Piece) (k : ℕ) (point : List ℤ)
    → IsTrue (is_tree_of version problem fuel pieces) → Proves (verdict_of pieces) → found_of problem pieces ≡ found.Refuted k point → ⊥

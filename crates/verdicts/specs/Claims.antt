-- What trees and verdicts say of the zeros of a problem, over the operations of a domain.
use Rattle.std.specs.Prelude.{List, [], ◌↔◌}
use Rattle.poly_model.specs.Domain.{Operations}
use Rattle.poly_model.specs.Polynomial.{Polynomial}
use Rattle.poly_model.specs.Zeros.{AllZero, NoneZero, IsZero}
use Rattle.proof_steps.specs.Leaves.{SomeOf, leaves}
use Rattle.proof_steps.specs.declared.piece.Piece.{Piece}
use Rattle.proof_steps.specs.declared.problem.Problem.{Problem}
use Rattle.verdicts.specs.declared.verdict.Verdict.{Verdict}
use Rattle.verdicts.specs.declared.verdict.Verdict.TheVariants as verdict

-- The leaves cover the hypotheses: a point is a zero of all hypotheses exactly if it satisfies the equations of some
-- listed leaf under its conditions.
abbrev pub Covers : {M : Type 0} → Operations M → Problem → List Piece → Type 0
Covers {M} o problem pieces = (point : List M) → IsZero o problem.hyps [] point ↔ SomeOf (λ p. IsZero o p.eqs p.nes point) (leaves pieces)

-- Where all hypotheses are zero and none of the conditions is, all conclusions are zero.
abbrev pub HoldsUnder : {M : Type 0} → Operations M → Problem → List Polynomial → Type 0
HoldsUnder {M} o problem cs = (point : List M) → AllZero o problem.hyps point → NoneZero o cs point → AllZero o problem.cons point

-- What a verdict claims of a problem: proved and under claim that the conclusions hold, the others nothing.
abbrev pub Claims : {M : Type 0} → Operations M → Problem → Verdict → Type 0
Claims o problem verdict.Proved = HoldsUnder o problem []
Claims o problem (verdict.Under cs) = HoldsUnder o problem cs
Claims o problem (verdict.NotProved path k r) = Unit {0}
Claims o problem (verdict.Degenerate path) = Unit {0}
Claims o problem (verdict.Left path reason) = Unit {0}

-- The reduction of the conclusions by a triangular system.
use Rattle.std.specs.Prelude.{ℕ, zero, suc, ◌+◌, ◌-◌, List, [], ◌∷◌, length, Bool, true, false, if◌then◌else◌, ◌&&◌, ◌==◌, nat_lt, Option, Some, None, unwrap_or}
use Rattle.std.specs.Ordering.{int_eq}
use Rattle.poly_model.specs.Polynomial.{Polynomial}
use Rattle.poly_model.specs.Reduction.{same, class_of, reaches, reduction_of}
use Rattle.proof_steps.specs.Numbers.{item, first, greatest}
use Rattle.proof_steps.specs.Rules.{reduction_limit}
use Rattle.proof_steps.specs.Reasons.{same_reason}
use Rattle.proof_steps.specs.declared.piece.ChainStep.{ChainStep}
use Rattle.proof_steps.specs.declared.piece.LeafStatus.{LeafStatus}
use Rattle.proof_steps.specs.declared.piece.LeafStatus.TheVariants as status
use Rattle.poly_model.specs.declared.limits.Reason.{Reason}
use Rattle.poly_model.specs.declared.limits.Reason.TheVariants.{Fuel}

-- The greatest class of an equation whose degree p reaches, and 0 where there is none.
abbrev pub reducing_class : List Polynomial → Polynomial → ℕ
reducing_class E p = greatest (λ f. if reaches p f then class_of f else 0) E

-- The first equation of a class.
abbrev pub first_of_class : List Polynomial → ℕ → ℕ
first_of_class E x = unwrap_or (first (λ i. class_of (item E i) == x) (length E)) 0

-- What is due of the conclusions: all are 0, one is left, or one is reduced by an equation. The conclusions from the k-th
-- on are told, the first of them as far as it is reduced.
pub data Due : Type 0 where
  AllZero : Due
  Left : ℕ → Polynomial → Due
  Reduce : (k f : ℕ) → Polynomial → List Polynomial → Due

abbrev pub due_of : List Polynomial → ℕ → List Polynomial → Due
due_of E k [] = AllZero
due_of E k ([] ∷ ps) = due_of E (suc k) ps
due_of E k ((e ∷ p) ∷ ps) = elim (reducing_class E (e ∷ p)) [ zero ↦ Left k (e ∷ p) | suc x ↦ Reduce k (first_of_class E (suc x)) (e ∷ p) ps ]

-- Why the reduction of p by an equation cannot be recorded with so much fuel.
abbrev pub chain_reason : Polynomial → Polynomial → ℕ → Option Reason
chain_reason p f fuel = elim (reduction_limit p f) [ Some r ↦ Some r | None ↦ if nat_lt fuel (1 + length (reduction_of p f).1) then Some Fuel else None ]

-- The step is the reduction of the k-th conclusion, which stands at p, by the f-th equation.
abbrev pub is_step : List Polynomial → (k f : ℕ) → Polynomial → ChainStep → Bool
is_step E k f p s = (s.k == k && s.f == f) && (int_eq s.m (reduction_of p (item E f)).0 && same s.r (reduction_of p (item E f)).1)

-- The status is right where all conclusions are 0, where the k-th stays as p, or where its reduction by the f-th equation
-- is stopped.
abbrev pub is_proved : LeafStatus → Bool
is_proved status.Proved = true
is_proved (status.Remainder k r) = false
is_proved (status.Unreduced k reason f) = false

abbrev pub is_remainder : ℕ → Polynomial → LeafStatus → Bool
is_remainder k p status.Proved = false
is_remainder k p (status.Remainder j r) = j == k && same r p
is_remainder k p (status.Unreduced j reason f) = false

abbrev pub is_unreduced : ℕ → ℕ → Option Reason → LeafStatus → Bool
is_unreduced k f why status.Proved = false
is_unreduced k f why (status.Remainder j r) = false
is_unreduced k f why (status.Unreduced j reason g) = (j == k && g == f) && same_reason why (Some reason)

abbrev pub status_fits : List Polynomial → ℕ → Due → LeafStatus → Bool
status_fits E fuel AllZero s = is_proved s
status_fits E fuel (Left k p) s = is_remainder k p s
status_fits E fuel (Reduce k f p ps) s = is_unreduced k f (chain_reason p (item E f) fuel) s

-- A step fits what is due, and what follows fits what it leaves.
abbrev pub step_due : List Polynomial → (fuel : ℕ) → ChainStep → (ℕ → List Polynomial → ℕ → Bool) → Due → Bool
step_due E fuel c more AllZero = false
step_due E fuel c more (Left k p) = false
step_due E fuel c more (Reduce k f p rest) =
    (is_step E k f p c && same_reason (chain_reason p (item E f) fuel) None) && more k (c.r ∷ rest) (fuel - (1 + length c.r))

-- The chain and the status are those of the conclusions from the k-th on.
abbrev pub chain_fits : List Polynomial → (k : ℕ) → List Polynomial → (fuel : ℕ) → List ChainStep → LeafStatus → Bool
chain_fits E k ps fuel [] s = status_fits E fuel (due_of E k ps) s
chain_fits E k ps fuel (c ∷ cs) s = step_due E fuel c (λ j rest left. chain_fits E j rest left cs s) (due_of E k ps)

-- The chain and the status by what is due, and by what stops it.
abbrev pub chain_stopped : (ℕ → List Polynomial → ℕ → List ChainStep × LeafStatus) → List Polynomial → (fuel k f : ℕ) → Polynomial → List Polynomial → Option Reason → List ChainStep × LeafStatus
chain_stopped more E fuel k f p rest (Some why) = ([], status.Unreduced k why f)
chain_stopped more E fuel k f p rest None =
    let r = reduction_of p (item E f) in
    let c = more k (r.1 ∷ rest) (fuel - (1 + length r.1)) in
    (record { k = k; f = f; m = r.0; r = r.1 } ∷ c.0, c.1)

abbrev pub chain_due : (ℕ → List Polynomial → ℕ → List ChainStep × LeafStatus) → List Polynomial → (fuel : ℕ) → Due → List ChainStep × LeafStatus
chain_due more E fuel AllZero = ([], status.Proved)
chain_due more E fuel (Left k p) = ([], status.Remainder k p)
chain_due more E fuel (Reduce k f p rest) = chain_stopped more E fuel k f p rest (chain_reason p (item E f) fuel)

-- The chain and the status of the conclusions from the k-th on, by recursion on a number of steps that is not passed.
unfoldable pub chain_within : ℕ → List Polynomial → (k : ℕ) → List Polynomial → (fuel : ℕ) → List ChainStep × LeafStatus
chain_within zero E k ps fuel = ([], status.Proved)
chain_within (suc n) E k ps fuel = chain_due (λ j rest left. chain_within n E j rest left) E fuel (due_of E k ps)

-- Each step costs at least 1, so there are at most as many as there is fuel.
abbrev pub chain_of : List Polynomial → List Polynomial → (fuel : ℕ) → List ChainStep × LeafStatus
chain_of E cons fuel = chain_within (suc fuel) E 1 cons fuel

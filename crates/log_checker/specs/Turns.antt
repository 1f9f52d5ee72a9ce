-- What is due of the conclusions at a system, and what comes of it.
use Rattle.std.specs.Prelude.{◌≡◌, ◌≤◌, ◌<◌, ◌-◌, ℕ, suc, ℤ, List, [], length, drop, get_or, Bool, true, false, Option, Some, None, Result, Ok, Err}
use Rattle.poly_model.specs.Polynomial.{Polynomial}
use Rattle.poly_model.specs.Reduction.{class_of, reaches, reduction_of}
use Rattle.proof_steps.specs.Chain as chain
use Rattle.proof_steps.specs.Chain.{due_of, chain_reason}
use Rattle.proof_steps.specs.Numbers.{item}
use Rattle.poly_model.specs.declared.limits.Reason.{Reason}
use Rattle.log_checker.specs.declared.chain.Turn.{Turn}
use Rattle.log_checker.specs.declared.due.Due.{Due}
use Rattle.log_checker.specs.declared.due.Due.TheVariants as due

abbrev pub conclusion : List Polynomial → ℕ → Polynomial
conclusion cons at = get_or cons at []

-- The conclusion at a place is not 0, and what is due from another place on is due from there on.
pub record IsFirstLeft (cons : List Polynomial) (from at : ℕ) : Type 0 where
  pub below : at < length cons
  pub some : 0 < length (conclusion cons at)
  pub due : (E : List Polynomial) → due_of E (suc from) (drop from cons) ≡ due_of E (suc at) (drop at cons)

-- The equation of the number f reduces the polynomial, in the variable at a place.
pub record Reduces (E : List Polynomial) (p : Polynomial) (f var : ℕ) : Type 0 where
  pub low : 1 ≤ f
  pub below : f - 1 < length E
  pub class : class_of (item E f) ≡ suc var
  pub reached : reaches p (item E f) ≡ true

abbrev pub reduce : List Polynomial → (at f : ℕ) → chain.Due
reduce cons at f = chain.Reduce (suc at) f (conclusion cons at) (drop (suc at) cons)

-- What is due of the conclusions from a place on.
abbrev pub IsDue : (E cons : List Polynomial) (done : ℕ) → Due → Type 0
IsDue E cons done due.AllZero = due_of E (suc done) (drop done cons) ≡ chain.AllZero
IsDue E cons done (due.Left at) = (due_of E (suc done) (drop done cons) ≡ chain.Left (suc at) (conclusion cons at)) × (at < length cons)
IsDue E cons done (due.Reduce at f var) = (due_of E (suc done) (drop done cons) ≡ reduce cons at f) × (at < length cons) × Reduces E (conclusion cons at) f var

-- What the reduction of a polynomial by an equation gives with so much fuel, or why it is stopped.
abbrev pub Comes : (p f : Polynomial) (fuel : ℕ) → Result (ℤ × Polynomial) Reason → Type 0
Comes p f fuel (Ok r) = (chain_reason p f fuel ≡ None) × (r ≡ reduction_of p f)
Comes p f fuel (Err why) = chain_reason p f fuel ≡ Some why

-- A reduction is due.
abbrev pub is_reduce : chain.Due → Bool
is_reduce chain.AllZero = false
is_reduce (chain.Left k p) = false
is_reduce (chain.Reduce k f p rest) = true

-- The reduction that is due, if one is, and what comes of it.
abbrev pub IsTurn : (E cons : List Polynomial) (done fuel : ℕ) → Option Turn → Type 0
IsTurn E cons done fuel None = is_reduce (due_of E (suc done) (drop done cons)) ≡ false
IsTurn E cons done fuel (Some t) = (due_of E (suc done) (drop done cons) ≡ reduce cons t.at t.f) × (t.at < length cons) × Comes (conclusion cons t.at) (item E t.f) fuel t.result

-- What stops a reduction, if anything does.
abbrev pub stop_in : {A : Type 0} → Result A Reason → Option Reason
stop_in (Ok a) = None
stop_in (Err why) = Some why

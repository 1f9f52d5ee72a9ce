-- Polynomials in a store.
use Rattle.std.specs.Prelude.{◌≡◌, ℕ, suc, IsTrue, Option, Some, None, Result, Ok, Err}
use Rattle.poly_model.specs.Polynomial.{Polynomial}
use Rattle.poly_model.specs.Standard.{polynomial_of, is_standard}
use Rattle.term_store.specs.States.{State, IsLive, list_at}
use Rattle.term_store.specs.Changes.{Makes, Keeps}
use Rattle.term_store.specs.declared.store.Slot.{Slot}
use Rattle.poly_model.specs.declared.limits.Limit.{Limit}
use Rattle.polynomials.specs.declared.poly.Poly.{Poly}

-- The outcome is what bounded arithmetic gives: its result in a new list, or its limit with the store as it was.
abbrev pub Outcome : State → State → Result Slot Limit → Result Polynomial Limit → Type 0
Outcome s t (Ok r) (Ok p) = Makes s t r.0 × (polynomial_of (list_at t.lists r.0) ≡ p)
Outcome s t (Ok r) (Err met) = ⊥
Outcome s t (Err limit) (Ok p) = ⊥
Outcome s t (Err limit) (Err met) = (limit ≡ met) × Keeps s t

-- The slot of a polynomial.
abbrev pub slot_of : Poly → ℕ
slot_of p = p.slot.0

-- The polynomial that a store holds.
abbrev pub polynomial_at : State → Poly → Polynomial
polynomial_at s p = polynomial_of (list_at s.lists (slot_of p))

-- The slot is live, and holds a polynomial within the limits.
pub record IsPoly (s : State) (p : Poly) : Type 0 where
  pub live : IsLive s.lists (slot_of p)
  pub standard : IsTrue (is_standard (polynomial_at s p))

-- The result is this polynomial in a new slot, and the store is otherwise as it was.
pub record Gives (s t : State) (r : Poly) (p : Polynomial) : Type 0 where
  pub makes : Makes s t (slot_of r)
  pub value : polynomial_at t r ≡ p
  pub standard : IsTrue (is_standard p)

-- The answer is what bounded arithmetic gives: its result in a new slot, or its limit with the store as it was.
abbrev pub Answers : State → State → Result Poly Limit → Result Polynomial Limit → Type 0
Answers s t (Ok r) (Ok p) = Gives s t r p
Answers s t (Ok r) (Err met) = ⊥
Answers s t (Err limit) (Ok p) = ⊥
Answers s t (Err limit) (Err met) = (limit ≡ met) × Keeps s t

-- A class as a number: 0 where there is none, else one more than the place of the variable.
abbrev pub class_number : Option ℕ → ℕ
class_number None = 0
class_number (Some i) = suc i

-- What an elementary reduction over a store answers.
use Rattle.std.specs.Prelude.{◌≡◌, ℤ, Result, Ok, Err}
use Rattle.poly_model.specs.Polynomial.{Polynomial}
use Rattle.poly_model.specs.declared.limits.Limit.{Limit}
use Rattle.term_store.specs.States.{State}
use Rattle.term_store.specs.Changes.{Keeps}
use Rattle.polynomials.specs.declared.poly.Poly.{Poly}
use Rattle.polynomials.specs.Held.{Gives}

-- The answer is what bounded arithmetic gives: the multiplier and the polynomial in a new slot, or the limit with the store
-- as it was.
abbrev pub Reduces : State → State → Result (ℤ × Poly) Limit → Result (ℤ × Polynomial) Limit → Type 0
Reduces s t (Ok r) (Ok p) = (r.0 ≡ p.0) × Gives s t r.1 p.1
Reduces s t (Ok r) (Err met) = ⊥
Reduces s t (Err limit) (Ok p) = ⊥
Reduces s t (Err limit) (Err met) = (limit ≡ met) × Keeps s t

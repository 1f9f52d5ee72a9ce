-- The equation that reduces a polynomial, by what is known of the equations.
use Rattle.std.specs.Prelude.{◌≡◌, ℕ, suc, ◌-◌, ◌≤◌, ◌<◌, List, [], ◌∷◌, map, length, if◌then◌else◌, ◌==◌, nat_le, IsTrue}
use Rattle.poly_model.specs.Polynomial.{Polynomial}
use Rattle.poly_model.specs.Reduction.{class_of, degree_at, reaches}
use Rattle.poly_model.specs.declared.limits.TheConstants.{MOST_VARIABLES}
use Rattle.workbench.specs.Searches.{greatest_in, place_of}
use Rattle.term_store.specs.States.{State}
use Rattle.polynomials.specs.Held.{IsPoly}
use Rattle.proof_steps.specs.Chain.{first_of_class, reducing_class}
use Rattle.proof_steps.specs.Numbers.{item}
use Rattle.workbench.specs.Standing.{held_at}
use Rattle.workbench.specs.declared.bench.Held.{Held}
use Rattle.triangular.specs.declared.reducer.Divisor.{Divisor}

-- The classes are numbers of variables.
abbrev pub AreWithin : List Held → Type 0
AreWithin [] = Unit {0}
AreWithin (h ∷ hs) = (h.class ≤ MOST_VARIABLES) × AreWithin hs

-- The class of an equation whose degree the polynomial reaches.
abbrev pub class_reached : Polynomial → Held → ℕ
class_reached p h = if nat_le h.degree (degree_at (h.class - 1) p) then h.class else 0

abbrev pub reducing_in : Polynomial → List Held → ℕ
reducing_in p hs = greatest_in (class_reached p) hs

abbrev pub first_in : List Held → ℕ → ℕ
first_in hs x = place_of (λ k h. h.class == x) 1 hs

-- The equation that reduces a polynomial: that of the greatest class whose degree is reached, and its number.
pub record IsDivisor (s : State) (hs : List Held) (p : Polynomial) (r : Divisor) : Type 0 where
  pub low : 1 ≤ r.f
  pub below : r.f - 1 < length hs
  pub some : 1 ≤ r.by.class
  pub due : reducing_class (map (held_at s) hs) p ≡ suc (r.by.class - 1)
  pub first : r.f ≡ first_of_class (map (held_at s) hs) (suc (r.by.class - 1))
  pub here : item (map (held_at s) hs) r.f ≡ held_at s r.by
  pub class : class_of (held_at s r.by) ≡ suc (r.by.class - 1)
  pub reached : IsTrue (reaches p (held_at s r.by))
  pub poly : IsPoly s r.by.poly

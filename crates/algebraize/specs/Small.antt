-- How small the polynomials of a figure are: their degrees, and the sizes of their coefficients.
use Rattle.std.specs.Prelude.{ℕ, ◌+◌, ◌≤◌, List, [], ◌∷◌, Bool, IsTrue, nat_le, unsigned_abs}
use Rattle.std.specs.List.{list_all, sum}
use Rattle.poly_model.specs.Polynomial.{Polynomial}
use Rattle.poly_model.specs.Standard.{is_standard}

-- The sum of the sizes of the coefficients.
abbrev pub weight : Polynomial → ℕ
weight [] = 0
weight ((es, c) ∷ p) = unsigned_abs c + weight p

-- No exponent of a monomial is above d.
abbrev pub are_at_most : ℕ → List ℕ → Bool
are_at_most d = list_all (λ e. nat_le e d)

-- No exponent is above d.
abbrev pub is_low : ℕ → Polynomial → Bool
is_low d = list_all (λ entry. are_at_most d entry.0)

-- The total degree is at most d: no exponents of a monomial sum to more.
abbrev pub is_of_degree : ℕ → Polynomial → Bool
is_of_degree d = list_all (λ entry. nat_le (sum entry.0) d)

-- A polynomial within the limits, of degree at most d in each variable, whose coefficients have sizes
-- of at most w together.
pub record IsSmall (d w : ℕ) (p : Polynomial) : Type 0 where
  pub standard : IsTrue (is_standard p)
  pub low : IsTrue (is_low d p)
  pub weight : weight p ≤ w

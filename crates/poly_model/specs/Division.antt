-- Pseudo-division of g by f: a row of elementary reductions.
use Rattle.std.specs.Prelude.{◌≡◌, ℕ, zero, suc, ℤ, pos, ◌*ℤ◌, []}
use Rattle.poly_model.specs.Polynomial.{Polynomial, poly_sum, poly_product, poly_scaled, polynomial_operations, power}
use Rattle.poly_model.specs.Reduction.{initial_of, factor_of, reduction_of}

-- A row so far: the number of its steps, the quotient, the multiplier and the rest.
pub record Division : Type 0 where
  pub steps : ℕ
  pub quotient : Polynomial
  pub multiplier : ℤ
  pub rest : Polynomial

-- Before the first step the rest is g.
abbrev pub undivided : Polynomial → Division
undivided g = record { steps = 0; quotient = []; multiplier = pos 1; rest = g }

-- One step more, of the reduction I*r - c*f = k*s of the rest r: the quotient q becomes I*q + m*c, the multiplier m
-- becomes m*k, and the rest s.
abbrev pub divided_once : Polynomial → Division → Division
divided_once f d = record {
  steps = suc d.steps;
  quotient = poly_sum (poly_product (initial_of f) d.quotient) (poly_scaled d.multiplier (factor_of d.rest f));
  multiplier = d.multiplier *ℤ (reduction_of d.rest f).0;
  rest = (reduction_of d.rest f).1;
}

-- The row of so many steps.
abbrev pub division_of : Polynomial → Polynomial → ℕ → Division
division_of g f zero = undivided g
division_of g f (suc s) = divided_once f (division_of g f s)

-- The identity of a row: I^s * g = q*f + m*r, with the initial I of f, in n variables.
abbrev pub IsDivision : ℕ → Polynomial → Polynomial → Division → Type 0
IsDivision n g f d =
    poly_product (power (polynomial_operations n) (initial_of f) d.steps) g
    ≡ poly_sum (poly_product d.quotient f) (poly_scaled d.multiplier d.rest)

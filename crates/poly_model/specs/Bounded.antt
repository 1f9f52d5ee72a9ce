-- Arithmetic within the limits: the result of an operation, or the limit that it meets first.
use Rattle.std.specs.Prelude.{ℕ, ◌+◌, ℤ, ◌*ℤ◌, Bool, true, false, ◌&&◌, List, [], ◌∷◌, replicate, max, nat_le, Result, Ok, Err}
use Rattle.poly_model.specs.Polynomial.{Polynomial, exponents_sum, poly_sum, poly_difference}
use Rattle.poly_model.specs.Standard.{are_low, are_bounded, is_short}
use Rattle.poly_model.specs.Reduction.{degree_at, shifted, initial_of, factor_of, parts_of}
use Rattle.poly_model.specs.declared.limits.TheConstants.{MOST_VARIABLES, MOST_DEGREE}
use Rattle.poly_model.specs.declared.limits.Limit.{Limit}
use Rattle.poly_model.specs.declared.limits.Limit.TheVariants.{Degree, Bound, Terms}

-- A list, unless a coefficient passes its size or else there are too many entries.
abbrev pub within_limits : Polynomial → Result Polynomial Limit
within_limits p =
    elim (are_bounded p) [
      | false ↦ Err Bound
      | true ↦ elim (is_short p) [ false ↦ Err Terms | true ↦ Ok p ]
    ]

-- A sum and a difference within the limits.
abbrev pub bounded_sum : Polynomial → Polynomial → Result Polynomial Limit
bounded_sum p q = within_limits (poly_sum p q)

abbrev pub bounded_difference : Polynomial → Polynomial → Result Polynomial Limit
bounded_difference p q = within_limits (poly_difference p q)

-- One entry times a polynomial.
abbrev pub multiple : List ℕ → ℤ → Polynomial → Polynomial
multiple es c [] = []
multiple es c ((fs, d) ∷ q) = (exponents_sum es fs, c *ℤ d) ∷ multiple es c q

-- A row of a product, added to the sum so far.
abbrev pub bounded_row : List ℕ → ℤ → Polynomial → Polynomial → Result Polynomial Limit
bounded_row es c q sum =
    elim (are_bounded (multiple es c q)) [ false ↦ Err Bound | true ↦ bounded_sum (multiple es c q) sum ]

-- The rows of a product, one for each entry of the first factor in its order, added to the sum so far.
abbrev pub bounded_rows : Polynomial → Polynomial → Polynomial → Result Polynomial Limit
bounded_rows [] q sum = Ok sum
bounded_rows ((es, c) ∷ p) q sum = elim (bounded_row es c q sum) [ Err limit ↦ Err limit | Ok s ↦ bounded_rows p q s ]

-- The greater of the exponents of each variable.
abbrev pub exponents_max : List ℕ → List ℕ → List ℕ
exponents_max [] ys = ys
exponents_max (a ∷ xs) [] = a ∷ xs
exponents_max (a ∷ xs) (b ∷ ys) = max a b ∷ exponents_max xs ys

-- The degree in each variable.
abbrev pub degrees_of : Polynomial → List ℕ
degrees_of [] = replicate MOST_VARIABLES 0
degrees_of ((es, c) ∷ p) = exponents_max es (degrees_of p)

-- In no variable do the degrees add to more than the highest.
abbrev pub degrees_fit : Polynomial → Polynomial → Bool
degrees_fit p q = are_low (exponents_sum (degrees_of p) (degrees_of q))

-- A product within the limits.
abbrev pub bounded_product : Polynomial → Polynomial → Result Polynomial Limit
bounded_product p q = elim (degrees_fit p q) [ false ↦ Err Degree | true ↦ bounded_rows p q [] ]

-- A product with the k-th power of the variable at a place, within the limits.
abbrev pub bounded_shift : ℕ → ℕ → Polynomial → Result Polynomial Limit
bounded_shift i k p = elim (nat_le (degree_at i p + k) MOST_DEGREE) [ false ↦ Err Degree | true ↦ Ok (shifted i k p) ]

-- A step that goes on with the result of the one before, where it has one.
abbrev pub and_then : {A B : Type 0} → Result A Limit → (A → Result B Limit) → Result B Limit
and_then (Ok a) next = next a
and_then (Err limit) next = Err limit

-- The difference of two products, or the limit met first: the degrees of both, then the rows of the first, those of the
-- second, and then the difference.
abbrev pub bounded_cross : Polynomial → Polynomial → Polynomial → Polynomial → Result Polynomial Limit
bounded_cross a p b q =
    elim (degrees_fit a p && degrees_fit b q) [
      | false ↦ Err Degree
      | true ↦ and_then (bounded_rows a p []) (λ first. and_then (bounded_rows b q []) (λ second. bounded_difference first second))
    ]

-- The elementary reduction of g by f, or the limit met first.
abbrev pub bounded_reduction : Polynomial → Polynomial → Result (ℤ × Polynomial) Limit
bounded_reduction g f = and_then (bounded_cross (initial_of f) g (factor_of g f) f) (λ t. Ok (parts_of t))

-- Small cases of the definitions, computed.
use Rattle.std.proofs.Common.{◌≡◌, ℕ, Bool, true, false, pos, negsuc, [], ◌∷◌, Result, Ok, Err, refl, ap, ◌∙◌}
use Rattle.poly_model.specs.Polynomial.{Polynomial}
use Rattle.poly_model.specs.Reduction.{class_of, initial_of, tail_of, reduction_of}
use Rattle.poly_model.specs.Standard.{are_bounded, is_short}
use Rattle.poly_model.specs.Bounded.{within_limits, bounded_product, bounded_shift, bounded_cross, bounded_reduction}
use Rattle.poly_model.specs.declared.limits.Limit.{Limit}
use Rattle.poly_model.specs.declared.limits.Limit.TheVariants.{Degree, Bound, Terms}
use Rattle.poly_model.specs.declared.limits.TheConstants.{ARITH_UNITS, STEP_UNITS, ROW_UNITS, LEAF_UNITS}
use Rattle.poly_model.specs.declared.limits.TheConstants.{MOST_EQUATIONS, MOST_LOG_BYTES, MOST_FUEL, MOST_TERMS, MOST_DEGREE}

-- u1*x4 - u1*x2 and 2*x4 - u3 in the variables u1, u2, u3, x1, x2, x3, x4
abbrev dividend : Polynomial
dividend = (1 ∷ 0 ∷ 0 ∷ 0 ∷ 0 ∷ 0 ∷ 1 ∷ [], pos 1) ∷ (1 ∷ 0 ∷ 0 ∷ 0 ∷ 1 ∷ 0 ∷ 0 ∷ [], negsuc 0) ∷ []

abbrev divisor : Polynomial
divisor = (0 ∷ 0 ∷ 0 ∷ 0 ∷ 0 ∷ 0 ∷ 1 ∷ [], pos 2) ∷ (0 ∷ 0 ∷ 1 ∷ 0 ∷ 0 ∷ 0 ∷ 0 ∷ [], negsuc 0) ∷ []

-- 2*u1*x2 - u1*u3
abbrev rest : Polynomial
rest = (1 ∷ 0 ∷ 0 ∷ 0 ∷ 1 ∷ 0 ∷ 0 ∷ [], pos 2) ∷ (1 ∷ 0 ∷ 1 ∷ 0 ∷ 0 ∷ 0 ∷ 0 ∷ [], negsuc 0) ∷ []

class-is : ◌≡◌ {A = ℕ} (class_of divisor) 7
class-is = refl

initial-is : initial_of divisor ≡ (0 ∷ 0 ∷ 0 ∷ 0 ∷ 0 ∷ 0 ∷ 0 ∷ [], pos 2) ∷ []
initial-is = refl

tail-is : tail_of divisor ≡ (0 ∷ 0 ∷ 1 ∷ 0 ∷ 0 ∷ 0 ∷ 0 ∷ [], negsuc 0) ∷ []
tail-is = refl

reduction-is : reduction_of dividend divisor ≡ (negsuc 0, rest)
reduction-is = refl

within-limits : bounded_reduction dividend divisor ≡ Ok (negsuc 0, rest)
within-limits = refl

-- 10^6 * 10^36 passes the greatest size
past-bound : bounded_product ((0 ∷ [], pos 1000000) ∷ []) ((0 ∷ [], pos 1000000000000000000000000000000000000) ∷ []) ≡ Err Bound
past-bound = refl

-- x^40 * x^30 passes the highest degree
past-degree : bounded_product ((40 ∷ [], pos 1) ∷ []) ((30 ∷ [], pos 1) ∷ []) ≡ Err Degree
past-degree = refl

-- x^40 * x^23 does not
highest-degree : bounded_product ((40 ∷ [], pos 1) ∷ []) ((23 ∷ [], pos 1) ∷ []) ≡ Ok ((63 ∷ [], pos 1) ∷ [])
highest-degree = refl

-- The degrees of both products are judged before the sizes of the first: 10^6 * 10^36 - x^40 * x^30
degrees-come-first : bounded_cross ((0 ∷ [], pos 1000000) ∷ []) ((0 ∷ [], pos 1000000000000000000000000000000000000) ∷ [])
    ((40 ∷ [], pos 1) ∷ []) ((30 ∷ [], pos 1) ∷ []) ≡ Err Degree
degrees-come-first = refl

-- Where a list has coefficients past the greatest size and too many terms, the size is named.
abbrev limit-of : Bool → Bool → Polynomial → Result Polynomial Limit
limit-of bounded short p = elim bounded [ false ↦ Err Bound | true ↦ elim short [ false ↦ Err Terms | true ↦ Ok p ] ]

size-comes-first : (p : Polynomial) → are_bounded p ≡ false → is_short p ≡ false → within_limits p ≡ Err Bound
size-comes-first p large long = ap (λ b. limit-of b (is_short p) p) large

terms-come-next : (p : Polynomial) → are_bounded p ≡ true → is_short p ≡ false → within_limits p ≡ Err Terms
terms-come-next p bounded long = ap (λ b. limit-of b (is_short p) p) bounded ∙ ap (λ s. limit-of true s p) long

shift-past : bounded_shift 0 24 ((40 ∷ [], pos 1) ∷ []) ≡ Err Degree
shift-past = refl

-- the limits as numbers
arith-units : ◌≡◌ {A = ℕ} ARITH_UNITS 32784
arith-units = refl

step-units : ◌≡◌ {A = ℕ} STEP_UNITS 49176
step-units = refl

row-units : ◌≡◌ {A = ℕ} ROW_UNITS 57372
row-units = refl

leaf-units : ◌≡◌ {A = ℕ} LEAF_UNITS 65568
leaf-units = refl

most-equations : ◌≡◌ {A = ℕ} MOST_EQUATIONS 112
most-equations = refl

most-bytes : ◌≡◌ {A = ℕ} MOST_LOG_BYTES 268435456
most-bytes = refl

most-terms : ◌≡◌ {A = ℕ} MOST_TERMS 2048
most-terms = refl

most-degree : ◌≡◌ {A = ℕ} MOST_DEGREE 63
most-degree = refl

most-fuel : ◌≡◌ {A = ℕ} MOST_FUEL 320000
most-fuel = refl

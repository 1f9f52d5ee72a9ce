-- Products of which no row meets a limit.
use Rattle.std.proofs.Common.{◌≡◌, ℕ, ◌+◌, ◌*◌, ◌≤◌, zero, suc, refl, List, [], ◌∷◌, length, ◌∙◌, ap, arith, true}
use Rattle.std.specs.Prelude.{ℤ, pos, negsuc, ◌+ℤ◌, unsigned_abs, Result, Ok, Err}
use Rattle.std.specs.Cmp.Derive.{both_true}
use Rattle.std.proofs.lemmas.Bool.{le-leb}
use Rattle.std.proofs.lemmas.Int.{unsigned_abs-mul, ints}
use Rattle.std.proofs.Math.Nat.{suc-mul}
use Rattle.std.specs.declared.cmp.Ordering.TheVariants.{Less, Equal, Greater}
use Rattle.poly_model.specs.Polynomial.{Polynomial, IsDescending, monomial_cmp, with_entry, add_entry, poly_sum, poly_product}
use Rattle.poly_model.specs.Standard.{are_bounded}
use Rattle.poly_model.specs.Bounded.{multiple, bounded_row, bounded_rows}
use Rattle.poly_model.specs.declared.limits.Limit.{Limit}
use Rattle.poly_model.specs.declared.limits.TheConstants.{MOST_SIZE, MOST_TERMS}
use Rattle.poly_model.proofs.Multiple.{multiple-length}
use Rattle.poly_model.proofs.Ordered.{same_coefficients, descending-product, at_monomial-additive}
use Rattle.poly_model.proofs.Sums as sums
use Rattle.poly_model.specs.Integers.{integers_ring}
use Rattle.poly_model.proofs.Rows.{bounded_rows-are, rows-are}
use Rattle.polynomials.specs.Sizes.{sizes_of}
use Rattle.polynomials.proofs.Outcomes.{row-sum, within-ok}

-- ---- sizes
abs-sum : (a b : ℤ) → unsigned_abs (a +ℤ b) ≤ unsigned_abs a + unsigned_abs b
abs-sum a b = omega (arith, ints)

sizes-with : (es : List ℕ) (c : ℤ) (p : Polynomial) → sizes_of (with_entry es c p) ≤ unsigned_abs c + sizes_of p
sizes-with es (pos zero) p = omega arith
sizes-with es (pos (suc n)) p = omega arith
sizes-with es (negsuc n) p = omega arith

sizes-add : (es : List ℕ) (c : ℤ) (p : Polynomial) → sizes_of (add_entry es c p) ≤ unsigned_abs c + sizes_of p
sizes-add es c [] = sizes-with es c []
sizes-add es c ((fs, d) ∷ p) =
    let later = sizes-add es c p in
    let here = sizes-with fs (c +ℤ d) p in
    let first = sizes-with es c ((fs, d) ∷ p) in
    let sum = abs-sum c d in
    elim (monomial_cmp es fs) as (λ r. sizes_of (elim r as (λ _. Polynomial) [ Less ↦ (fs, d) ∷ add_entry es c p | Equal ↦ with_entry fs (c +ℤ d) p | Greater ↦ with_entry es c ((fs, d) ∷ p) ]) ≤ unsigned_abs c + (unsigned_abs d + sizes_of p)) [
      | Less ↦ omega (arith, later)
      | Equal ↦ omega (arith, here, sum)
      | Greater ↦ first
    ]

pub sizes-sum : (p q : Polynomial) → sizes_of (poly_sum p q) ≤ sizes_of p + sizes_of q
sizes-sum [] q = omega arith
sizes-sum ((es, c) ∷ p) q =
    let first = sizes-add es c (poly_sum p q) in
    let rest = sizes-sum p q in
    omega (arith, first, rest)

pub sizes-multiple : (es : List ℕ) (c : ℤ) (q : Polynomial) → sizes_of (multiple es c q) ≡ unsigned_abs c * sizes_of q
sizes-multiple es c [] = omega arith
sizes-multiple es c ((fs, d) ∷ q) =
    let here = unsigned_abs-mul c d in
    let rest = sizes-multiple es c q in
    let parts = times-sum (unsigned_abs c) (unsigned_abs d) (sizes_of q) in
    omega (arith, here, rest, parts)
  where
    times-sum : (a b k : ℕ) → a * (b + k) ≡ a * b + a * k
    times-sum zero b k = omega arith
    times-sum (suc a) b k =
        let h = times-sum a b k in
        let x = suc-mul a (b + k) in
        let y = suc-mul a b in
        let z = suc-mul a k in
        omega (arith, h, x, y, z)

pub bounded-sizes : (p : Polynomial) → sizes_of p ≤ MOST_SIZE → are_bounded p ≡ true
bounded-sizes [] h = refl
bounded-sizes ((es, c) ∷ p) h = both_true (le-leb (unsigned_abs c) MOST_SIZE (omega (arith, h))) (bounded-sizes p (omega (arith, h)))

-- ---- lengths
length-with : (es : List ℕ) (c : ℤ) (p : Polynomial) → length (with_entry es c p) ≤ suc (length p)
length-with es (pos zero) p = omega arith
length-with es (pos (suc n)) p = omega arith
length-with es (negsuc n) p = omega arith

length-add : (es : List ℕ) (c : ℤ) (p : Polynomial) → length (add_entry es c p) ≤ suc (length p)
length-add es c [] = length-with es c []
length-add es c ((fs, d) ∷ p) =
    let later = length-add es c p in
    let here = length-with fs (c +ℤ d) p in
    let first = length-with es c ((fs, d) ∷ p) in
    elim (monomial_cmp es fs) as (λ r. length (elim r as (λ _. Polynomial) [ Less ↦ (fs, d) ∷ add_entry es c p | Equal ↦ with_entry fs (c +ℤ d) p | Greater ↦ with_entry es c ((fs, d) ∷ p) ]) ≤ suc (suc (length p))) [
      | Less ↦ omega (arith, later)
      | Equal ↦ omega (arith, here)
      | Greater ↦ omega (arith, first)
    ]

pub length-sum : (p q : Polynomial) → length (poly_sum p q) ≤ length p + length q
length-sum [] q = omega arith
length-sum ((es, c) ∷ p) q =
    let first = length-add es c (poly_sum p q) in
    let rest = length-sum p q in
    omega (arith, first, rest)

-- ---- products of numbers
pub sum-times : (a b k : ℕ) → (a + b) * k ≡ a * k + b * k
sum-times zero b k = let e : zero + b ≡ b = omega arith in ap (λ n. n * k) e ∙ omega arith
sum-times (suc a) b k =
    let h = sum-times a b k in
    let x = suc-mul (a + b) k in
    let y = suc-mul a k in
    let e : suc a + b ≡ suc (a + b) = omega arith in
    ap (λ n. n * k) e ∙ omega (arith, h, x, y)

-- ---- rows
rows-on : (es : List ℕ) (c : ℤ) (p q sum s : Polynomial) → bounded_row es c q sum ≡ Ok s → bounded_rows ((es, c) ∷ p) q sum ≡ bounded_rows p q s
rows-on es c p q sum s e = ap (λ r. elim r as (λ _. Result Polynomial Limit) [ Err limit ↦ Err limit | Ok s ↦ bounded_rows p q s ]) e

-- where the sizes and the terms of all products are few enough, no row meets a limit
pub rows-unlimited : (p q sum : Polynomial) → sizes_of sum + sizes_of p * sizes_of q ≤ MOST_SIZE → length sum + length p * length q ≤ MOST_TERMS
    → (r : Polynomial) × (bounded_rows p q sum ≡ Ok r)
rows-unlimited [] q sum sizes terms = (sum, refl)
rows-unlimited ((es, c) ∷ p) q sum sizes terms =
    let row = multiple es c q in
    let next = poly_sum row sum in
    let row_sizes = sizes-multiple es c q in
    let next_sizes = sizes-sum row sum in
    let row_length = multiple-length es c q in
    let next_length = length-sum row sum in
    let both = sum-times (unsigned_abs c) (sizes_of p) (sizes_of q) in
    let all = suc-mul (length p) (length q) in
    let is : bounded_row es c q sum ≡ Ok next =
    row-sum es c q sum (bounded-sizes row (omega (arith, sizes, row_sizes, both)))
    ∙ within-ok next (bounded-sizes next (omega (arith, sizes, row_sizes, next_sizes, both))) (omega (arith, terms, row_length, next_length, all)) in
    let rest = rows-unlimited p q next (omega (arith, sizes, row_sizes, next_sizes, both)) (omega (arith, terms, row_length, next_length, all)) in
    (rest.0, rows-on es c p q sum next is ∙ rest.1)

pub unlimited : (n : ℕ) (p q : Polynomial) → IsDescending n p → IsDescending n q → sizes_of p * sizes_of q ≤ MOST_SIZE → length p * length q ≤ MOST_TERMS
    → bounded_rows p q [] ≡ Ok (poly_product p q)
unlimited n p q h k sizes terms =
    let some = rows-unlimited p q [] (omega (arith, sizes)) (omega (arith, terms)) in
    some.1 ∙ ap Ok (bounded_rows-are p q [] some.0 some.1 ∙ rows-are n p q h k)

pub product-comm : (n : ℕ) (p q : Polynomial) → IsDescending n p → IsDescending n q → poly_product p q ≡ poly_product q p
product-comm n p q h k =
    same_coefficients n (poly_product p q) (poly_product q p) (descending-product n p q h k) (descending-product n q p k h)
    (λ x. sums.same_mul_comm integers_ring (at_monomial-additive x) p q)

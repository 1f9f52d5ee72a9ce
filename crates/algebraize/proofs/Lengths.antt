-- How many terms sums, products and vectors have.
use Rattle.std.proofs.Common.{◌≡◌, ℕ, ◌+◌, ◌*◌, ◌≤◌, zero, suc, List, [], ◌∷◌, length, refl, sym, ap, subst, arith}
use Rattle.std.specs.Prelude.{ℤ, pos, negsuc, ◌+ℤ◌, ◌*ℤ◌}
use Rattle.std.specs.declared.cmp.Ordering.TheVariants.{Less, Equal, Greater}
use Rattle.poly_model.specs.Domain.{integer_in}
use Rattle.poly_model.specs.Polynomial.{Entry, Polynomial, monomial_cmp, with_entry, add_entry, add_multiple, exponents_sum, poly_sum, poly_product}
use Rattle.poly_model.specs.Values.{monomial_cmp-self}
use Rattle.poly_model.specs.declared.limits.TheConstants.{MOST_VARIABLES}
use Rattle.poly_model.proofs.Order.{exponents_sum-comm}
use Rattle.algebraize.specs.Vectors.{Vector, plus, minus, twice, times, dot, cross, rot, sq_difference}
use Rattle.algebraize.specs.Equations.{polynomials}
use Rattle.algebraize.proofs.Small.{length-with_entry, length-add_entry, length-sum, length-negative, length-difference, product-bound}
use Rattle.algebraize.proofs.Multiples.{integer-constant}

-- ---- products

length-add_multiple : (es : List ℕ) (c : ℤ) (q r : Polynomial) → length (add_multiple es c q r) ≤ length q + length r
length-add_multiple es c [] r = omega arith
length-add_multiple es c ((fs, d) ∷ q) r =
    omega (arith, length-add_entry (exponents_sum es fs) (c *ℤ d) (add_multiple es c q r), length-add_multiple es c q r)

length-product : (p q : Polynomial) → length (poly_product p q) ≤ length p * length q
length-product [] q = omega arith
length-product ((es, c) ∷ p) q = omega (arith, length-add_multiple es c q (poly_product p q), length-product p q)

pub product-terms : (m n : ℕ) (p q : Polynomial) → length p ≤ m → length q ≤ n → length (poly_product p q) ≤ m * n
product-terms m n p q a b = omega (arith, length-product p q, product-bound (length p) m (length q) n a b)

-- a whole number is a constant, of at most one term
pub multiple-terms : (z : ℤ) (p : Polynomial) → length (poly_product (integer_in polynomials z) p) ≤ length p
multiple-terms z p =
    let one : length (integer_in polynomials z) ≤ 1 = subst (λ (k : Polynomial). length k ≤ 1) (sym (integer-constant MOST_VARIABLES z)) (length-with_entry _ z []) in
    omega (arith, product-terms 1 (length p) (integer_in polynomials z) p one (omega arith))

-- ---- one monomial twice

length-equal : (g h : List ℕ) (c k : ℤ) (p : Polynomial) → monomial_cmp g h ≡ Equal → length (add_entry g c ((h, k) ∷ p)) ≤ suc (length p)
length-equal g h c k p e =
    subst (λ r. length {A = Entry} (elim r [ Less ↦ (h, k) ∷ add_entry g c p | Equal ↦ with_entry h (c +ℤ k) p | Greater ↦ with_entry g c ((h, k) ∷ p) ])
    ≤ suc (length p)) (sym e) (length-with_entry h (c +ℤ k) p)

length-less : (g h : List ℕ) (c k : ℤ) (p : Polynomial) → monomial_cmp g h ≡ Less → length (add_entry g c ((h, k) ∷ p)) ≡ suc (length (add_entry g c p))
length-less g h c k p e =
    ap (λ r. length {A = Entry} (elim r [ Less ↦ (h, k) ∷ add_entry g c p | Equal ↦ with_entry h (c +ℤ k) p | Greater ↦ with_entry g c ((h, k) ∷ p) ])) e

length-onto : (g : List ℕ) (c d : ℤ) (p : Polynomial) → length (add_entry g c (with_entry g d p)) ≤ suc (length p)
length-onto g c (pos zero) p = length-add_entry g c p
length-onto g c (pos (suc n)) p = length-equal g g c (pos (suc n)) p (monomial_cmp-self g)
length-onto g c (negsuc n) p = length-equal g g c (negsuc n) p (monomial_cmp-self g)

length-again : (g : List ℕ) (c d : ℤ) (p : Polynomial) → length (add_entry g c (add_entry g d p)) ≤ suc (length p)
length-again g c d [] = length-onto g c d []
length-again g c d ((h, k) ∷ p) =
    elim (monomial_cmp g h) as (λ r. monomial_cmp g h ≡ r
    → length (add_entry g c (elim r [ Less ↦ (h, k) ∷ add_entry g d p | Equal ↦ with_entry h (d +ℤ k) p | Greater ↦ with_entry g d ((h, k) ∷ p) ]))
    ≤ suc (suc (length p))) [
      | Less ↦ λ e. omega (arith, length-less g h c k (add_entry g d p) e, length-again g c d p)
      | Equal ↦ λ e. omega (arith, length-add_entry g c (with_entry h (d +ℤ k) p), length-with_entry h (d +ℤ k) p)
      | Greater ↦ λ e. length-onto g c d ((h, k) ∷ p)
    ] refl

pub doubled-terms : (p : Polynomial) → length p ≤ 1 → length (poly_sum p p) ≤ 1
doubled-terms [] le = omega arith
doubled-terms ((e, a) ∷ []) le = length-equal e e a a [] (monomial_cmp-self e)
doubled-terms ((e, a) ∷ t ∷ p) le = absurd (omega arith)

-- the square of two terms has one product twice
square-two : (e f : List ℕ) (a b : ℤ) → length (poly_product ((e, a) ∷ (f, b) ∷ []) ((e, a) ∷ (f, b) ∷ [])) ≤ 3
square-two e f a b =
    let last = add_entry (exponents_sum f f) (b *ℤ b) [] in
    let both = add_entry (exponents_sum f e) (b *ℤ a) last in
    let again : length (add_entry (exponents_sum e f) (a *ℤ b) both) ≤ suc (length last)
    = subst (λ g. length (add_entry g (a *ℤ b) both) ≤ suc (length last)) (exponents_sum-comm f e) (length-again (exponents_sum f e) (a *ℤ b) (b *ℤ a) last) in
    omega (arith, length-add_entry (exponents_sum e e) (a *ℤ a) (add_entry (exponents_sum e f) (a *ℤ b) both), again, length-add_entry (exponents_sum f f) (b *ℤ b) [])

pub square-terms : (p : Polynomial) → length p ≤ 2 → length (poly_product p p) ≤ 3
square-terms [] le = omega arith
square-terms ((e, a) ∷ []) le = omega (arith, length-product ((e, a) ∷ []) ((e, a) ∷ []))
square-terms ((e, a) ∷ (f, b) ∷ []) le = square-two e f a b
square-terms ((e, a) ∷ (f, b) ∷ t ∷ p) le = absurd (omega arith)

-- ---- vectors

-- Each coordinate has at most n terms.
abbrev pub Within : ℕ → Vector Polynomial → Type 0
Within n v = (length v.0 ≤ n) × (length v.1 ≤ n)

pub within-plus : (m n : ℕ) (p q : Vector Polynomial) → Within m p → Within n q → Within (m + n) (plus polynomials p q)
within-plus m n p q a b = (omega (arith, length-sum p.0 q.0, a.0, b.0), omega (arith, length-sum p.1 q.1, a.1, b.1))

pub within-minus : (m n : ℕ) (p q : Vector Polynomial) → Within m p → Within n q → Within (m + n) (minus polynomials p q)
within-minus m n p q a b = (omega (arith, length-difference p.0 q.0, a.0, b.0), omega (arith, length-difference p.1 q.1, a.1, b.1))

pub within-twice : (p : Vector Polynomial) → Within 1 p → Within 1 (twice polynomials p)
within-twice p a = (doubled-terms p.0 a.0, doubled-terms p.1 a.1)

pub within-times : (n : ℕ) (z : ℤ) (p : Vector Polynomial) → Within n p → Within n (times polynomials (integer_in polynomials z) p)
within-times n z p a = (omega (arith, multiple-terms z p.0, a.0), omega (arith, multiple-terms z p.1, a.1))

pub within-rot : (n : ℕ) (p : Vector Polynomial) → Within n p → Within n (rot polynomials p)
within-rot n p a = (omega (arith, length-negative p.1, a.1), a.0)

pub dot-terms : (m n : ℕ) (p q : Vector Polynomial) → Within m p → Within n q → length (dot polynomials p q) ≤ m * n + m * n
dot-terms m n p q a b =
    omega (arith, length-sum (poly_product p.0 q.0) (poly_product p.1 q.1), product-terms m n p.0 q.0 a.0 b.0, product-terms m n p.1 q.1 a.1 b.1)

pub cross-terms : (m n : ℕ) (p q : Vector Polynomial) → Within m p → Within n q → length (cross polynomials p q) ≤ m * n + m * n
cross-terms m n p q a b =
    omega (arith, length-difference (poly_product p.0 q.1) (poly_product p.1 q.0), product-terms m n p.0 q.1 a.0 b.1, product-terms m n p.1 q.0 a.1 b.0)

pub sq_difference-terms : (p q : Vector Polynomial) → Within 2 p → Within 2 q → length (sq_difference polynomials p q) ≤ 12
sq_difference-terms p q a b =
    let first = length-sum (poly_product p.0 p.0) (poly_product p.1 p.1) in
    let second = length-sum (poly_product q.0 q.0) (poly_product q.1 q.1) in
    let whole = length-difference (dot polynomials p p) (dot polynomials q q) in
    omega (arith, whole, first, second, square-terms p.0 a.0, square-terms p.1 a.1, square-terms q.0 b.0, square-terms q.1 b.1)

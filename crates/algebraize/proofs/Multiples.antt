-- A whole number times a polynomial.
use Rattle.std.proofs.Common.{◌≡◌, ◌≢◌, ℕ, ◌+◌, zero, suc, inl, inr, arith, refl, List, [], ◌∷◌, length, replicate, ◌∙◌, ap}
use Rattle.std.specs.Prelude.{ℤ, pos, negsuc, ◌+ℤ◌, ◌*ℤ◌}
use Rattle.std.proofs.lemmas.Int.{ints}
use Rattle.std.specs.declared.cmp.Ordering.{Ordering}
use Rattle.std.specs.declared.cmp.Ordering.TheVariants.{Less, Equal, Greater}
use Rattle.poly_model.specs.Domain.{integers, natural_in, integer_in}
use Rattle.poly_model.specs.Integers.{integers_ring, no_zero_divisors}
use Rattle.poly_model.specs.Polynomial.{Polynomial, polynomial_operations, monomial_cmp, IsAbove, IsDescending, coefficient_of, sum_over, at_monomial, exponents_sum, with_entry, add_entry, poly_product, poly_scaled, poly_constant}
use Rattle.poly_model.specs.declared.limits.TheConstants.{MOST_VARIABLES}
use Rattle.poly_model.specs.Values.{monomial_cmp-self}
use Rattle.poly_model.proofs.Sums as sums
use Rattle.poly_model.proofs.Ordered.{at_monomial-additive, same_coefficients, descending-product, descending-constant}
use Rattle.algebraize.specs.Equations.{polynomials}

none_added : (n : ℕ) (e : List ℕ) → length e ≡ n → exponents_sum (replicate n 0) e ≡ e
none_added zero e l = refl
none_added (suc n) [] l = absurd (omega arith)
none_added (suc n) (x ∷ e) l = λ i. (let h : 0 + x ≡ x = omega arith in h) i ∷ none_added n e (omega arith) i

above-scaled : (g : List ℕ) (m : ℤ) (p : Polynomial) → IsAbove g p → IsAbove g (poly_scaled m p)
above-scaled g m [] b = tt
above-scaled g m ((e, c) ∷ p) b = (b.0, above-scaled g m p b.1)

pub descending-scaled : (n : ℕ) (m : ℤ) (p : Polynomial) → m ≢ pos 0 → IsDescending n p → IsDescending n (poly_scaled m p)
descending-scaled n m [] some h = tt
descending-scaled n m ((e, c) ∷ p) some h =
    (h.0, (λ z. elim (no_zero_divisors m c z) [ inl a ↦ some a | inr b ↦ h.1 b ]), above-scaled e m p h.2, descending-scaled n m p some h.3)

constant-some : (n : ℕ) (c : ℤ) → c ≢ pos 0 → poly_constant n c ≡ (replicate n 0, c) ∷ []
constant-some n (pos zero) some = absurd (some refl)
constant-some n (pos (suc k)) some = refl
constant-some n (negsuc k) some = refl

shifted_none : (n : ℕ) (c : ℤ) (x : List ℕ) (p : Polynomial) → IsDescending n p
    → sum_over integers (λ f d. at_monomial x (exponents_sum (replicate n 0) f) (c *ℤ d)) p ≡ coefficient_of x (poly_scaled c p)
shifted_none n c x [] h = refl
shifted_none n c x ((e, d) ∷ p) h = λ i. at_monomial x (none_added n e h.0 i) (c *ℤ d) +ℤ shifted_none n c x p h.3 i

-- a constant times a polynomial
pub constant-product : (n : ℕ) (c : ℤ) (p : Polynomial) → c ≢ pos 0 → IsDescending n p → poly_product (poly_constant n c) p ≡ poly_scaled c p
constant-product n c p some h =
    same_coefficients n _ _ (descending-product n (poly_constant n c) p (descending-constant n c) h) (descending-scaled n c p some h)
    (λ x. ap (λ k. coefficient_of x (poly_product k p)) (constant-some n c some)
    ∙ sums.sum_over-product integers_ring (at_monomial-additive x) ((replicate n 0, c) ∷ []) p
    ∙ integers_ring.add_zero _ ∙ shifted_none n c x p h)

-- so many ones are the constant
added_equal : (e : List ℕ) (c d : ℤ) (r : Ordering) → r ≡ Equal
    → elim r [ Less ↦ (e, d) ∷ add_entry e c [] | Equal ↦ with_entry e (c +ℤ d) [] | Greater ↦ with_entry e c ((e, d) ∷ []) ] ≡ with_entry e (c +ℤ d) []
added_equal e c d Less h = cc
added_equal e c d Equal h = refl
added_equal e c d Greater h = cc

pub natural-constant : (n k : ℕ) → natural_in (polynomial_operations n) k ≡ poly_constant n (pos k)
natural-constant n zero = refl
natural-constant n (suc zero) = refl
natural-constant n (suc (suc k)) =
    ap (add_entry (replicate n 0) (pos 1)) (natural-constant n (suc k))
    ∙ added_equal (replicate n 0) (pos 1) (pos (suc k)) (monomial_cmp (replicate n 0) (replicate n 0)) (monomial_cmp-self (replicate n 0))
    ∙ ap (λ z. with_entry (replicate n 0) z []) (let e : pos 1 +ℤ pos (suc k) ≡ pos (suc (suc k)) = omega (arith, ints) in e)

-- a whole number in the ring of polynomials is the constant
pub integer-constant : (n : ℕ) (z : ℤ) → integer_in (polynomial_operations n) z ≡ poly_constant n z
integer-constant n (pos k) = natural-constant n k
integer-constant n (negsuc k) = ap (polynomial_operations n).neg (natural-constant n (suc k))

pub multiple-some : (z : ℤ) (p : Polynomial) → z ≢ pos 0 → IsDescending MOST_VARIABLES p → poly_product (integer_in polynomials z) p ≡ poly_scaled z p
multiple-some z p some h = ap (λ k. poly_product k p) (integer-constant MOST_VARIABLES z) ∙ constant-product MOST_VARIABLES z p some h

pub multiple-none : (z : ℤ) (p : Polynomial) → z ≡ pos 0 → poly_product (integer_in polynomials z) p ≡ []
multiple-none z p none = ap (λ k. poly_product (integer_in polynomials k) p) none

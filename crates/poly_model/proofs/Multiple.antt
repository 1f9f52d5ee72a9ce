-- One term times a polynomial in order is in order.
use Rattle.std.proofs.Common.{◌≡◌, ◌≢◌, ℕ, ◌+◌, ◌<◌, zero, suc, refl, List, [], ◌∷◌, length, sym, ◌∙◌, ap, arith, inl, inr}
use Rattle.std.specs.Prelude.{ℤ, pos}
use Rattle.std.specs.Ordering.{nat_cmp, ordering_then}
use Rattle.std.specs.Cmp.{nat_cmp_is, ranked}
use Rattle.std.specs.declared.cmp.Ordering.TheVariants.{Less, Equal, Greater}
use Rattle.std.specs.FinMap.{nat_cmp-IsAntisymmetric}
use Rattle.poly_model.specs.Polynomial.{Polynomial, IsAbove, IsDescending, monomial_cmp, exponents_sum}
use Rattle.poly_model.specs.Integers.{no_zero_divisors}
use Rattle.poly_model.proofs.Order.{exponents_sum-length}
use Rattle.poly_model.specs.Bounded.{multiple}

nat_cmp-shift : (e x y : ℕ) → nat_cmp (e + x) (e + y) ≡ nat_cmp x y
nat_cmp-shift e x y =
    elim (nat_cmp x y) as (λ r. nat_cmp x y ≡ r → nat_cmp (e + x) (e + y) ≡ r) [
      | Less ↦ λ p. sym (nat_cmp_is (e + x) (e + y) Less (let l : x < y = ranked x y Less (sym p) in omega (arith, l)))
      | Equal ↦ λ p. sym (nat_cmp_is (e + x) (e + y) Equal (let l : x ≡ y = nat_cmp-IsAntisymmetric x y p in ap (λ z. e + z) l))
      | Greater ↦ λ p. sym (nat_cmp_is (e + x) (e + y) Greater (let l : y < x = ranked x y Greater (sym p) in omega (arith, l)))
    ] refl

pub monomial_cmp-shift : (n : ℕ) (es xs ys : List ℕ) → length es ≡ n → length xs ≡ n → length ys ≡ n → monomial_cmp (exponents_sum es xs) (exponents_sum es ys) ≡ monomial_cmp xs ys
monomial_cmp-shift n [] xs ys a b c = refl
monomial_cmp-shift zero (e ∷ es) xs ys a b c = absurd (omega (arith, a))
monomial_cmp-shift (suc n) (e ∷ es) [] ys a b c = absurd (omega (arith, b))
monomial_cmp-shift (suc n) (e ∷ es) (x ∷ xs) [] a b c = absurd (omega (arith, c))
monomial_cmp-shift (suc n) (e ∷ es) (x ∷ xs) (y ∷ ys) a b c =
    λ i. ordering_then (monomial_cmp-shift n es xs ys (omega (arith, a)) (omega (arith, b)) (omega (arith, c)) i) (nat_cmp-shift e x y i)

above-multiple : (n : ℕ) (es fs : List ℕ) (c : ℤ) (q : Polynomial) → length es ≡ n → length fs ≡ n → IsDescending n q → IsAbove fs q → IsAbove (exponents_sum es fs) (multiple es c q)
above-multiple n es fs c [] l m h a = tt
above-multiple n es fs c ((gs, d) ∷ q) l m h a = (monomial_cmp-shift n es fs gs l m h.0 ∙ a.0, above-multiple n es fs c q l m h.3 a.1)

pub descending-multiple : (n : ℕ) (es : List ℕ) (c : ℤ) (q : Polynomial) → length es ≡ n → c ≢ pos 0 → IsDescending n q → IsDescending n (multiple es c q)
descending-multiple n es c [] l s h = tt
descending-multiple n es c ((fs, d) ∷ q) l s h =
    (exponents_sum-length n es fs l h.0, (λ z. elim (no_zero_divisors c d z) [ inl a ↦ s a | inr b ↦ h.1 b ]), above-multiple n es fs c q l h.0 h.3 h.2, descending-multiple n es c q l s h.3)

pub multiple-length : (es : List ℕ) (c : ℤ) (q : Polynomial) → length (multiple es c q) ≡ length q
multiple-length es c [] = refl
multiple-length es c ((fs, d) ∷ q) = ap suc (multiple-length es c q)

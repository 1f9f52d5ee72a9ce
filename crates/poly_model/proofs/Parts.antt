-- Coefficients of a power of a variable, other terms, and products with a power of a variable are in order and within the
-- limits.
use Rattle.std.proofs.Common.{◌≡◌, ℕ, ◌+◌, ◌<◌, zero, suc, refl, List, [], ◌∷◌, get_or, set, sym, ◌∙◌, ap, arith, true, false, cond}
use Rattle.std.specs.Prelude.{◌==◌}
use Rattle.std.proofs.lemmas.Bool.{eqb-true}
use Rattle.std.specs.Ordering.{nat_cmp, ordering_then}
use Rattle.std.specs.Cmp.{nat_cmp_is, ranked}
use Rattle.std.proofs.Math.ListN.{length-set}
use Rattle.std.specs.declared.cmp.Ordering.TheVariants.{Less, Equal, Greater}
use Rattle.std.specs.FinMap.{nat_cmp-IsAntisymmetric}
use Rattle.poly_model.specs.Polynomial.{Polynomial, IsAbove, IsDescending, monomial_cmp}
use Rattle.poly_model.specs.Reduction.{coefficient_at, without_degree, shifted}

nat_cmp-self : (e : ℕ) → nat_cmp e e ≡ Equal
nat_cmp-self e = sym (nat_cmp_is e e Equal refl)

pub nat_cmp-plus : (x y k : ℕ) → nat_cmp (x + k) (y + k) ≡ nat_cmp x y
nat_cmp-plus x y k =
    elim (nat_cmp x y) as (λ r. nat_cmp x y ≡ r → nat_cmp (x + k) (y + k) ≡ r) [
      | Less ↦ λ p. sym (nat_cmp_is (x + k) (y + k) Less (let l : x < y = ranked x y Less (sym p) in omega (arith, l)))
      | Equal ↦ λ p. sym (nat_cmp_is (x + k) (y + k) Equal (let l : x ≡ y = nat_cmp-IsAntisymmetric x y p in ap (λ z. z + k) l))
      | Greater ↦ λ p. sym (nat_cmp_is (x + k) (y + k) Greater (let l : y < x = ranked x y Greater (sym p) in omega (arith, l)))
    ] refl

same-place : (x : ℕ) (es fs : List ℕ) → get_or es x 0 ≡ get_or fs x 0 → monomial_cmp (set es x 0) (set fs x 0) ≡ monomial_cmp es fs
same-place x [] [] e = refl
same-place zero [] (f ∷ fs) e = refl
same-place (suc x) [] (f ∷ fs) e = refl
same-place zero (g ∷ es) [] e = refl
same-place (suc x) (g ∷ es) [] e = refl
same-place zero (g ∷ es) (f ∷ fs) e = ap (ordering_then (monomial_cmp es fs)) (nat_cmp-self 0 ∙ sym (nat_cmp-self f) ∙ ap (λ z. nat_cmp z f) (sym e))
same-place (suc x) (g ∷ es) (f ∷ fs) e = ap (λ r. ordering_then r (nat_cmp g f)) (same-place x es fs e)

shifted-place : (x k : ℕ) (es fs : List ℕ) → monomial_cmp (set es x (get_or es x 0 + k)) (set fs x (get_or fs x 0 + k)) ≡ monomial_cmp es fs
shifted-place x k [] [] = refl
shifted-place zero k [] (f ∷ fs) = refl
shifted-place (suc x) k [] (f ∷ fs) = refl
shifted-place zero k (g ∷ es) [] = refl
shifted-place (suc x) k (g ∷ es) [] = refl
shifted-place zero k (g ∷ es) (f ∷ fs) = ap (ordering_then (monomial_cmp es fs)) (nat_cmp-plus g f k)
shifted-place (suc x) k (g ∷ es) (f ∷ fs) = ap (λ r. ordering_then r (nat_cmp g f)) (shifted-place x k es fs)

above-part : (x d : ℕ) (es : List ℕ) (p : Polynomial) → get_or es x 0 ≡ d → IsAbove es p → IsAbove (set es x 0) (coefficient_at x d p)
above-part x d es [] e a = tt
above-part x d es ((fs, c) ∷ p) e a =
    elim (get_or fs x 0 == d) as (λ b. (get_or fs x 0 == d) ≡ b → IsAbove (set es x 0) (cond b ((set fs x 0, c) ∷ coefficient_at x d p) (coefficient_at x d p))) [
      | true ↦ λ q. (same-place x es fs (e ∙ sym (eqb-true _ _ q)) ∙ a.0, above-part x d es p e a.1)
      | false ↦ λ q. above-part x d es p e a.1
    ] refl

pub descending-part : (n x d : ℕ) (p : Polynomial) → IsDescending n p → IsDescending n (coefficient_at x d p)
descending-part n x d [] h = tt
descending-part n x d ((es, c) ∷ p) h =
    elim (get_or es x 0 == d) as (λ b. (get_or es x 0 == d) ≡ b → IsDescending n (cond b ((set es x 0, c) ∷ coefficient_at x d p) (coefficient_at x d p))) [
      | true ↦ λ q. (length-set es x 0 ∙ h.0, h.1, above-part x d es p (eqb-true _ _ q) h.2, descending-part n x d p h.3)
      | false ↦ λ q. descending-part n x d p h.3
    ] refl

above-shifted : (x k : ℕ) (es : List ℕ) (p : Polynomial) → IsAbove es p → IsAbove (set es x (get_or es x 0 + k)) (shifted x k p)
above-shifted x k es [] a = tt
above-shifted x k es ((fs, c) ∷ p) a = (shifted-place x k es fs ∙ a.0, above-shifted x k es p a.1)

pub descending-shifted : (n x k : ℕ) (p : Polynomial) → IsDescending n p → IsDescending n (shifted x k p)
descending-shifted n x k [] h = tt
descending-shifted n x k ((es, c) ∷ p) h = (length-set es x _ ∙ h.0, h.1, above-shifted x k es p h.2, descending-shifted n x k p h.3)

-- ---- the other terms
above-without : (x d : ℕ) (es : List ℕ) (p : Polynomial) → IsAbove es p → IsAbove es (without_degree x d p)
above-without x d es [] a = tt
above-without x d es ((fs, c) ∷ p) a =
    elim (get_or fs x 0 == d) as (λ b. IsAbove es (cond b (without_degree x d p) ((fs, c) ∷ without_degree x d p))) [
      | true ↦ above-without x d es p a.1
      | false ↦ (a.0, above-without x d es p a.1)
    ]

pub descending-without : (n x d : ℕ) (p : Polynomial) → IsDescending n p → IsDescending n (without_degree x d p)
descending-without n x d [] h = tt
descending-without n x d ((es, c) ∷ p) h =
    elim (get_or es x 0 == d) as (λ b. IsDescending n (cond b (without_degree x d p) ((es, c) ∷ without_degree x d p))) [
      | true ↦ descending-without n x d p h.3
      | false ↦ (h.0, h.1, above-without x d es p h.2, descending-without n x d p h.3)
    ]

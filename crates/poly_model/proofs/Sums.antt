-- Sums over the entries of polynomials.
use Rattle.std.proofs.Common.{◌≡◌, ℕ, zero, suc, refl, List, [], ◌∷◌, sym, ◌∙◌, ap, arith}
use Rattle.std.specs.Prelude.{ℤ, pos, negsuc, ◌+ℤ◌, ◌*ℤ◌}
use Rattle.std.proofs.lemmas.Int.{ints}
use Rattle.std.specs.declared.cmp.Ordering.TheVariants.{Less, Equal, Greater}
use Rattle.poly_model.specs.Polynomial.{sum_over, Polynomial, monomial_cmp, exponents_sum, with_entry, add_entry, poly_sum, add_multiple, poly_product}
use Rattle.poly_model.specs.Values.{monomial_cmp-same}
use Rattle.poly_model.specs.Domain.{Operations, IsCommutativeRing}
use Rattle.poly_model.specs.Ring as ring
use Rattle.poly_model.specs.Integers.{mul_assoc, mul_comm, mul_add}
use Rattle.poly_model.proofs.Order.{exponents_sum-comm, exponents_sum-assoc}

-- a number for each entry, which adds up in the coefficient
pub record IsAdditive {M : Type 0} (o : Operations M) (φ : List ℕ → ℤ → M) : Type 0 where
  pub at_zero : (e : List ℕ) → φ e (pos 0) ≡ o.zero
  pub at_sum : (e : List ℕ) (c d : ℤ) → φ e (c +ℤ d) ≡ o.add (φ e c) (φ e d)

module _ {M : Type 0} {o : Operations M} (L : IsCommutativeRing o) where
  four : (x y z t : M) → o.add (o.add x y) (o.add z t) ≡ o.add (o.add x z) (o.add y t)
  four x y z t = simp (L.add_assoc, ring.add_left_comm L, L.add_comm)

module _ {M : Type 0} {o : Operations M} (L : IsCommutativeRing o) {φ : List ℕ → ℤ → M} (A : IsAdditive o φ) where
  sum_over-with_entry : (e : List ℕ) (c : ℤ) (p : Polynomial) → sum_over o φ (with_entry e c p) ≡ o.add (φ e c) (sum_over o φ p)
  sum_over-with_entry e (pos zero) p = sym (ap (λ x. o.add x (sum_over o φ p)) (A.at_zero e) ∙ ring.zero_add L (sum_over o φ p))
  sum_over-with_entry e (pos (suc n)) p = refl
  sum_over-with_entry e (negsuc n) p = refl

  pub sum_over-add_entry : (e : List ℕ) (c : ℤ) (p : Polynomial) → sum_over o φ (add_entry e c p) ≡ o.add (φ e c) (sum_over o φ p)
  sum_over-add_entry e c [] = sum_over-with_entry e c []
  sum_over-add_entry e c ((f, d) ∷ p) =
      elim (monomial_cmp e f) as (λ r. monomial_cmp e f ≡ r →
      sum_over o φ (elim r [ Less ↦ (f, d) ∷ add_entry e c p | Equal ↦ with_entry f (c +ℤ d) p | Greater ↦ with_entry e c ((f, d) ∷ p) ]) ≡ o.add (φ e c) (sum_over o φ ((f, d) ∷ p))) [
        | Less ↦ λ h. ap (o.add (φ f d)) (sum_over-add_entry e c p) ∙ ring.add_left_comm L _ _ _
        | Equal ↦ λ h.
            sum_over-with_entry f (c +ℤ d) p ∙ ap (λ x. o.add x (sum_over o φ p)) (A.at_sum f c d) ∙ L.add_assoc _ _ _ ∙ ap (λ g. o.add (φ g c) (o.add (φ f d) (sum_over o φ p))) (sym (monomial_cmp-same e f h))
        | Greater ↦ λ h. sum_over-with_entry e c ((f, d) ∷ p)
      ] refl

  pub sum_over-sum : (p q : Polynomial) → sum_over o φ (poly_sum p q) ≡ o.add (sum_over o φ p) (sum_over o φ q)
  sum_over-sum [] q = sym (ring.zero_add L (sum_over o φ q))
  sum_over-sum ((e, c) ∷ p) q = sum_over-add_entry e c (poly_sum p q) ∙ ap (o.add (φ e c)) (sum_over-sum p q) ∙ sym (L.add_assoc _ _ _)

  pub sum_over-add_multiple : (e : List ℕ) (c : ℤ) (q r : Polynomial) → sum_over o φ (add_multiple e c q r) ≡ o.add (sum_over o (λ f d. φ (exponents_sum e f) (c *ℤ d)) q) (sum_over o φ r)
  sum_over-add_multiple e c [] r = sym (ring.zero_add L (sum_over o φ r))
  sum_over-add_multiple e c ((f, d) ∷ q) r =
      sum_over-add_entry (exponents_sum e f) (c *ℤ d) (add_multiple e c q r) ∙ ap (o.add (φ (exponents_sum e f) (c *ℤ d))) (sum_over-add_multiple e c q r) ∙ sym (L.add_assoc _ _ _)

  pub sum_over-product : (p q : Polynomial) → sum_over o φ (poly_product p q) ≡ sum_over o (λ e c. sum_over o (λ f d. φ (exponents_sum e f) (c *ℤ d)) q) p
  sum_over-product [] q = refl
  sum_over-product ((e, c) ∷ p) q = sum_over-add_multiple e c q (poly_product p q) ∙ ap (o.add (sum_over o (λ f d. φ (exponents_sum e f) (c *ℤ d)) q)) (sum_over-product p q)

  pub shifted : (e : List ℕ) (c : ℤ) → IsAdditive o (λ f d. φ (exponents_sum e f) (c *ℤ d))
  shifted e c = record {
    at_zero = λ f. ap (φ (exponents_sum e f)) (let h : c *ℤ pos 0 ≡ pos 0 = omega (arith, ints) in h) ∙ A.at_zero _;
    at_sum = λ f d k. ap (φ (exponents_sum e f)) (mul_add c d k) ∙ A.at_sum _ _ _;
  }

module _ {M : Type 0} {o : Operations M} (L : IsCommutativeRing o) where
  -- ---- sums of sums
  pub sum_over-same : (φ ψ : List ℕ → ℤ → M) → ((e : List ℕ) (c : ℤ) → φ e c ≡ ψ e c) → (p : Polynomial) → sum_over o φ p ≡ sum_over o ψ p
  sum_over-same φ ψ h [] = refl
  sum_over-same φ ψ h ((e, c) ∷ p) = λ i. o.add (h e c i) (sum_over-same φ ψ h p i)

  pub sum_over-both : (φ ψ : List ℕ → ℤ → M) (p : Polynomial) → sum_over o (λ e c. o.add (φ e c) (ψ e c)) p ≡ o.add (sum_over o φ p) (sum_over o ψ p)
  sum_over-both φ ψ [] = sym (L.add_zero o.zero)
  sum_over-both φ ψ ((e, c) ∷ p) = ap (o.add (o.add (φ e c) (ψ e c))) (sum_over-both φ ψ p) ∙ four L (φ e c) (ψ e c) (sum_over o φ p) (sum_over o ψ p)

  pub sum_over-zero : (p : Polynomial) → sum_over o (λ e c. o.zero) p ≡ o.zero
  sum_over-zero [] = refl
  sum_over-zero ((e, c) ∷ p) = ring.zero_add L _ ∙ sum_over-zero p

  pub sum_over-swap : (F : List ℕ → ℤ → List ℕ → ℤ → M) (p q : Polynomial) → sum_over o (λ e c. sum_over o (F e c) q) p ≡ sum_over o (λ f d. sum_over o (λ e c. F e c f d) p) q
  sum_over-swap F [] q = sym (sum_over-zero q)
  sum_over-swap F ((e, c) ∷ p) q = ap (o.add (sum_over o (F e c) q)) (sum_over-swap F p q) ∙ sym (sum_over-both (F e c) (λ f d. sum_over o (λ e c. F e c f d) p) q)

-- the sums over a second factor add up in the first coefficient
pub inner : {M : Type 0} {o : Operations M} (L : IsCommutativeRing o) {φ : List ℕ → ℤ → M} → IsAdditive o φ → (q : Polynomial) → IsAdditive o (λ e c. sum_over o (λ f d. φ (exponents_sum e f) (c *ℤ d)) q)
inner {o = o} L {φ} A q = record {
  at_zero = λ e. sum_over-same L _ (λ f d. o.zero) (λ f d. ap (φ (exponents_sum e f)) (let h : pos 0 *ℤ d ≡ pos 0 = omega (arith, ints) in h) ∙ A.at_zero _) q ∙ sum_over-zero L q;
  at_sum = λ e c d.
      sum_over-same L _ (λ f k. o.add (φ (exponents_sum e f) (c *ℤ k)) (φ (exponents_sum e f) (d *ℤ k)))
      (λ f k. ap (φ (exponents_sum e f)) (let h : (c +ℤ d) *ℤ k ≡ c *ℤ k +ℤ d *ℤ k = mul_comm (c +ℤ d) k ∙ mul_add k c d ∙ (λ i. mul_comm k c i +ℤ mul_comm k d i) in h) ∙ A.at_sum _ _ _) q
      ∙ sum_over-both L _ _ q;
}

-- ---- the laws, for every such sum
module _ {M : Type 0} {o : Operations M} (L : IsCommutativeRing o) {φ : List ℕ → ℤ → M} (A : IsAdditive o φ) where
  pub same_add_comm : (p q : Polynomial) → sum_over o φ (poly_sum p q) ≡ sum_over o φ (poly_sum q p)
  same_add_comm p q = sum_over-sum L A p q ∙ L.add_comm _ _ ∙ sym (sum_over-sum L A q p)

  pub same_add_assoc : (p q r : Polynomial) → sum_over o φ (poly_sum (poly_sum p q) r) ≡ sum_over o φ (poly_sum p (poly_sum q r))
  same_add_assoc p q r =
      sum_over-sum L A (poly_sum p q) r ∙ ap (λ x. o.add x (sum_over o φ r)) (sum_over-sum L A p q) ∙ L.add_assoc _ _ _
      ∙ sym (sum_over-sum L A p (poly_sum q r) ∙ ap (o.add (sum_over o φ p)) (sum_over-sum L A q r))

  pub same_mul_comm : (p q : Polynomial) → sum_over o φ (poly_product p q) ≡ sum_over o φ (poly_product q p)
  same_mul_comm p q =
      sum_over-product L A p q ∙ sum_over-swap L (λ e c f d. φ (exponents_sum e f) (c *ℤ d)) p q
      ∙ sum_over-same L _ _ (λ f d. sum_over-same L _ _ (λ e c. λ i. φ (exponents_sum-comm e f i) (mul_comm c d i)) p) q ∙ sym (sum_over-product L A q p)

  pub same_mul_add : (p q r : Polynomial) → sum_over o φ (poly_product p (poly_sum q r)) ≡ sum_over o φ (poly_sum (poly_product p q) (poly_product p r))
  same_mul_add p q r =
      sum_over-product L A p (poly_sum q r)
      ∙ sum_over-same L _ (λ e c. o.add (sum_over o (λ f d. φ (exponents_sum e f) (c *ℤ d)) q) (sum_over o (λ f d. φ (exponents_sum e f) (c *ℤ d)) r)) (λ e c. sum_over-sum L (shifted L A e c) q r) p
      ∙ sum_over-both L _ _ p
      ∙ sym (sum_over-sum L A (poly_product p q) (poly_product p r) ∙ (λ i. o.add (sum_over-product L A p q i) (sum_over-product L A p r i)))

  pub same_mul_assoc : (p q r : Polynomial) → sum_over o φ (poly_product (poly_product p q) r) ≡ sum_over o φ (poly_product p (poly_product q r))
  same_mul_assoc p q r =
      sum_over-product L A (poly_product p q) r ∙ sum_over-product L (inner L A r) p q
      ∙ sum_over-same L _ _ (λ e c. sum_over-same L _ _ (λ f d. sum_over-same L _ _ (λ g k. λ i. φ (exponents_sum-assoc e f g i) (mul_assoc c d k i)) r) q ∙ sym (sum_over-product L (shifted L A e c) q r)) p
      ∙ sym (sum_over-product L A p (poly_product q r))

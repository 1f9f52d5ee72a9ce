-- The values of coefficients, of other terms, of products with powers of a variable, and of constants.
use Rattle.std.proofs.Common.{◌≡◌, ◌≢◌, ℕ, ◌+◌, ◌<◌, length, zero, suc, List, [], ◌∷◌, set, get_or, refl, sym, ◌∙◌, ap, arith, true, false, cond}
use Rattle.std.specs.Prelude.{pos, ◌==◌, if◌then◌else◌}
use Rattle.std.specs.Ordering.{int_eq}
use Rattle.std.proofs.lemmas.Bool.{and_parts, eqb-true, not-true, both_ways}
use Rattle.std.proofs.lemmas.Bool.Decides.{Decides-int_eq}
use Rattle.poly_model.specs.Domain.{Operations, IsDomain, integer_in}
use Rattle.poly_model.specs.Ring as ring
use Rattle.poly_model.specs.Values as values
use Rattle.poly_model.specs.Polynomial.{Polynomial, IsDescending, power, monomial_at, value_at}
use Rattle.poly_model.proofs.Contents as contents
use Rattle.poly_model.specs.Reduction.{monomial_class, class_of, is_constant, number_of, is_zero, is_nonzero_constant, coefficient_at, without_degree, shifted}

module _ {M : Type 0} {o : Operations M} (L : IsDomain o) where
  one_power : (n : ℕ) → power o o.one n ≡ o.one
  one_power zero = refl
  one_power (suc n) = ap (o.mul o.one) (one_power n) ∙ L.ring.mul_one o.one

  monomial-without : (i : ℕ) (es : List ℕ) (point : List M)
      → monomial_at o es point ≡ o.mul (power o (get_or point i o.one) (get_or es i 0)) (monomial_at o (set es i 0) point)
  monomial-without i [] point = sym (L.ring.mul_one o.one)
  monomial-without zero (e ∷ es) [] = sym (ap (λ x. o.mul x o.one) (one_power e) ∙ L.ring.mul_one o.one)
  monomial-without (suc i) (e ∷ es) [] = sym (ap (λ x. o.mul x o.one) (one_power (get_or es i 0)) ∙ L.ring.mul_one o.one)
  monomial-without zero (e ∷ es) (x ∷ xs) = ap (o.mul (power o x e)) (sym (ring.one_mul L.ring (monomial_at o es xs)))
  monomial-without (suc i) (e ∷ es) (x ∷ xs) =
      ap (o.mul (power o x e)) (monomial-without i es xs) ∙ ring.mul_left_comm L.ring _ _ _

  swap_term : (c m u v x : M) → o.add (o.mul c (o.mul x m)) (o.add (o.mul u x) v) ≡ o.add (o.mul (o.add (o.mul c m) u) x) v
  swap_term c m u v x = simp (L.ring.mul_add, ring.add_mul L.ring, L.ring.add_assoc, L.ring.mul_assoc, ring.mul_left_comm L.ring, L.ring.mul_comm)

  -- a polynomial is its coefficient of a power times that power, and the rest
  pub value-parts : (i d : ℕ) (p : Polynomial) (point : List M)
      → value_at o p point ≡ o.add (o.mul (value_at o (coefficient_at i d p) point) (power o (get_or point i o.one) d)) (value_at o (without_degree i d p) point)
  value-parts i d [] point = sym (L.ring.add_zero _ ∙ ring.zero_mul L.ring _)
  value-parts i d ((es, c) ∷ p) point =
      let x = get_or point i o.one in
      let T = o.mul (integer_in o c) (monomial_at o es point) in
      let A = value_at o (coefficient_at i d p) point in
      let B = value_at o (without_degree i d p) point in
      let rest = value-parts i d p point in
      elim (get_or es i 0 == d) as (λ b. (get_or es i 0 == d) ≡ b →
      o.add T (value_at o p point) ≡ o.add (o.mul (value_at o (cond b ((set es i 0, c) ∷ coefficient_at i d p) (coefficient_at i d p)) point) (power o x d)) (value_at o (cond b (without_degree i d p) ((es, c) ∷ without_degree i d p)) point)) [
        | true ↦ λ e.
            let same : get_or es i 0 ≡ d = eqb-true _ _ e in
            ap (o.add T) rest
            ∙ ap (λ (n : M). o.add (o.mul (integer_in o c) n) (o.add (o.mul A (power o x d)) B)) (monomial-without i es point ∙ ap (λ (k : ℕ). o.mul (power o x k) (monomial_at o (set es i 0) point)) same)
            ∙ swap_term (integer_in o c) (monomial_at o (set es i 0) point) A B (power o x d)
        | false ↦ λ e. ap (o.add T) rest ∙ ring.add_left_comm L.ring T (o.mul A (power o x d)) B
      ] refl

  pub zero-coefficient : (I x T : M) → I ≡ o.zero → o.add (o.mul I x) T ≡ T
  zero-coefficient I x T e = ap (λ y. o.add (o.mul y x) T) e ∙ ap (λ y. o.add y T) (ring.zero_mul L.ring x) ∙ ring.zero_add L.ring T

  -- ---- constants
  none_used : (es : List ℕ) (point : List M) → monomial_class es ≡ 0 → monomial_at o es point ≡ o.one
  none_used [] point h = refl
  none_used (e ∷ es) [] h = refl
  none_used (e ∷ es) (x ∷ xs) h =
      elim (monomial_class es) as (λ k. monomial_class es ≡ k → (elim k as (λ _. ℕ) [ zero ↦ if e == 0 then 0 else 1 | suc k ↦ suc (suc k) ]) ≡ 0 → o.mul (power o x e) (monomial_at o es xs) ≡ o.one) [
        | zero ↦ λ q. elim (e == 0) as (λ b. (e == 0) ≡ b → ◌≡◌ {A = ℕ} (if b then 0 else 1) 0 → o.mul (power o x e) (monomial_at o es xs) ≡ o.one) [
          | true ↦ λ t g. ap (λ k. o.mul (power o x k) (monomial_at o es xs)) (eqb-true e 0 t) ∙ ring.one_mul L.ring _ ∙ none_used es xs q
          | false ↦ λ t g. absurd (omega (arith, g))
        ] refl
        | suc k ↦ λ q g. absurd (omega (arith, g))
      ] refl h

  pub value-constant : (p : Polynomial) (point : List M) → class_of p ≡ 0 → value_at o p point ≡ integer_in o (number_of p)
  value-constant [] point h = refl
  value-constant ((es, c) ∷ p) point h =
      (λ i. o.add (o.mul (integer_in o c) (none_used es point (let e : monomial_class es ≡ 0 = omega (arith, h) in e) i)) (value-constant p point (let e : class_of p ≡ 0 = omega (arith, h) in e) i))
      ∙ ap (λ x. o.add x (integer_in o (number_of p))) (L.ring.mul_one (integer_in o c))
      ∙ sym (ring.integer_add L.ring c (number_of p))

  pub zero-is : (p : Polynomial) (point : List M) → is_zero p ≡ true → value_at o p point ≡ o.zero
  zero-is p point h =
      let parts = and_parts (is_constant p) _ h in
      value-constant p point (eqb-true _ _ parts.0) ∙ ap (integer_in o) ((Decides-int_eq (number_of p) (pos 0)).0 parts.1)

  pub nonzero-is : (p : Polynomial) (point : List M) → is_nonzero_constant p ≡ true → value_at o p point ≢ o.zero
  nonzero-is p point h e =
      let parts = and_parts (is_constant p) _ h in
      contents.integer_in-not_zero L (number_of p)
      (λ z. both_ways (int_eq (number_of p) (pos 0)) (not-true _ parts.1) ((Decides-int_eq (number_of p) (pos 0)).1 z))
      (sym (value-constant p point (eqb-true _ _ parts.0)) ∙ e)

  -- ---- a product with a power of a variable
  monomial-raised : (i k : ℕ) (es : List ℕ) (point : List M) → i < length es
      → monomial_at o (set es i (get_or es i 0 + k)) point ≡ o.mul (monomial_at o es point) (power o (get_or point i o.one) k)
  monomial-raised i k [] point below = absurd (omega (arith, below))
  monomial-raised zero k (e ∷ es) [] below = sym (ap (o.mul o.one) (one_power k) ∙ L.ring.mul_one o.one)
  monomial-raised (suc i) k (e ∷ es) [] below = sym (ap (o.mul o.one) (one_power k) ∙ L.ring.mul_one o.one)
  monomial-raised zero k (e ∷ es) (x ∷ xs) below =
      ap (λ y. o.mul y (monomial_at o es xs)) (values.power-sum L.ring x e k) ∙ L.ring.mul_assoc _ _ _
      ∙ ap (o.mul (power o x e)) (L.ring.mul_comm _ _) ∙ sym (L.ring.mul_assoc _ _ _)
  monomial-raised (suc i) k (e ∷ es) (x ∷ xs) below =
      ap (o.mul (power o x e)) (monomial-raised i k es xs (omega (arith, below))) ∙ sym (L.ring.mul_assoc _ _ _)

  pub value-shifted : (n i k : ℕ) (p : Polynomial) (point : List M) → IsDescending n p → i < n
      → value_at o (shifted i k p) point ≡ o.mul (value_at o p point) (power o (get_or point i o.one) k)
  value-shifted n i k [] point h below = sym (ring.zero_mul L.ring _)
  value-shifted n i k ((es, c) ∷ p) point h below =
      (λ j. o.add (o.mul (integer_in o c) (monomial-raised i k es point (let e = h.0 in omega (arith, below, e)) j)) (value-shifted n i k p point h.3 below j))
      ∙ ap (λ y. o.add y (o.mul (value_at o p point) (power o (get_or point i o.one) k))) (sym (L.ring.mul_assoc _ _ _))
      ∙ sym (ring.add_mul L.ring _ _ _)

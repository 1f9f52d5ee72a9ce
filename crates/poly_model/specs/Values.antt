-- The values of sums, differences, products, constants and variables.
use Rattle.std.proofs.Common.{◌≡◌, ℕ, ◌+◌, zero, suc, refl, List, [], ◌∷◌, replicate, set, get_or, ◌<◌, sym, ◌∙◌, ap, arith}
use Rattle.std.specs.Prelude.{ℤ, pos, negsuc, ◌+ℤ◌, ◌*ℤ◌}
use Rattle.std.specs.Ordering.{nat_cmp, ordering_then}
use Rattle.std.specs.Cmp.{nat_cmp_is}
use Rattle.std.specs.FinMap.{nat_cmp-IsAntisymmetric}
use Rattle.std.specs.declared.cmp.Ordering.TheVariants.{Less, Equal, Greater}
use Rattle.poly_model.specs.Domain.{Operations, IsCommutativeRing, integer_in}
use Rattle.poly_model.specs.Ring as ring
use Rattle.poly_model.specs.Polynomial.{Polynomial, power, monomial_at, value_at, monomial_cmp, exponents_sum, with_entry, add_entry, poly_sum, poly_scaled, poly_negative, poly_difference, add_multiple, poly_product, poly_constant, poly_variable}

pub monomial_cmp-same : (xs ys : List ℕ) → monomial_cmp xs ys ≡ Equal → xs ≡ ys
monomial_cmp-same [] [] e = refl
monomial_cmp-same [] (b ∷ ys) e = cc
monomial_cmp-same (a ∷ xs) [] e = cc
monomial_cmp-same (a ∷ xs) (b ∷ ys) is =
    elim (monomial_cmp xs ys) as (λ r. monomial_cmp xs ys ≡ r → ordering_then r (nat_cmp a b) ≡ Equal → a ∷ xs ≡ b ∷ ys) [
      | Less ↦ λ p e. cc
      | Equal ↦ λ p e i. nat_cmp-IsAntisymmetric a b e i ∷ monomial_cmp-same xs ys p i
      | Greater ↦ λ p e. cc
    ] refl is

pub monomial_cmp-self : (xs : List ℕ) → monomial_cmp xs xs ≡ Equal
monomial_cmp-self [] = refl
monomial_cmp-self (x ∷ xs) = ap (λ r. ordering_then r (nat_cmp x x)) (monomial_cmp-self xs) ∙ sym (nat_cmp_is x x Equal refl)

module _ {M : Type 0} {o : Operations M} (L : IsCommutativeRing o) where
  abbrev v : Polynomial → List M → M
  v = value_at o

  abbrev ps : List ℕ → List M → M
  ps = monomial_at o

  abbrev w : ℤ → M
  w = integer_in o

  pub power-sum : (x : M) (m n : ℕ) → power o x (m + n) ≡ o.mul (power o x m) (power o x n)
  power-sum x zero n = ap (power o x) (let e : 0 + n ≡ n = omega arith in e) ∙ sym (ring.one_mul L (power o x n))
  power-sum x (suc m) n =
      ap (power o x) (let e : suc m + n ≡ suc (m + n) = omega arith in e) ∙ ap (o.mul x) (power-sum x m n) ∙ sym (L.mul_assoc x _ _)

  pub monomial_at-sum : (es fs : List ℕ) (point : List M) → ps (exponents_sum es fs) point ≡ o.mul (ps es point) (ps fs point)
  monomial_at-sum [] fs point = sym (ring.one_mul L (ps fs point))
  monomial_at-sum (a ∷ es) [] point = sym (L.mul_one (ps (a ∷ es) point))
  monomial_at-sum (a ∷ es) (b ∷ fs) [] = sym (L.mul_one o.one)
  monomial_at-sum (a ∷ es) (b ∷ fs) (x ∷ xs) =
      (λ i. o.mul (power-sum x a b i) (monomial_at-sum es fs xs i)) ∙ simp (L.mul_assoc, ring.mul_left_comm L, L.mul_comm)

  pub value_at-with_entry : (es : List ℕ) (c : ℤ) (p : Polynomial) (point : List M) → v (with_entry es c p) point ≡ o.add (o.mul (w c) (ps es point)) (v p point)
  value_at-with_entry es (pos zero) p point = sym (ap (λ x. o.add x (v p point)) (ring.zero_mul L (ps es point)) ∙ ring.zero_add L (v p point))
  value_at-with_entry es (pos (suc n)) p point = refl
  value_at-with_entry es (negsuc n) p point = refl

  pub value_at-add_entry : (es : List ℕ) (c : ℤ) (p : Polynomial) (point : List M) → v (add_entry es c p) point ≡ o.add (o.mul (w c) (ps es point)) (v p point)
  value_at-add_entry es c [] point = value_at-with_entry es c [] point
  value_at-add_entry es c ((fs, d) ∷ p) point =
      elim (monomial_cmp es fs) as (λ r. monomial_cmp es fs ≡ r →
      v (elim r [ Less ↦ (fs, d) ∷ add_entry es c p | Equal ↦ with_entry fs (c +ℤ d) p | Greater ↦ with_entry es c ((fs, d) ∷ p) ]) point
      ≡ o.add (o.mul (w c) (ps es point)) (v ((fs, d) ∷ p) point)) [
        | Less ↦ λ e. ap (o.add (o.mul (w d) (ps fs point))) (value_at-add_entry es c p point) ∙ ring.add_left_comm L _ _ _
        | Equal ↦ λ e.
            value_at-with_entry fs (c +ℤ d) p point
            ∙ ap (λ x. o.add (o.mul x (ps fs point)) (v p point)) (ring.integer_add L c d)
            ∙ ap (λ x. o.add x (v p point)) (ring.add_mul L (w c) (w d) (ps fs point))
            ∙ L.add_assoc _ _ _
            ∙ ap (λ x. o.add (o.mul (w c) (ps x point)) (o.add (o.mul (w d) (ps fs point)) (v p point))) (sym (monomial_cmp-same es fs e))
        | Greater ↦ λ e. value_at-with_entry es c ((fs, d) ∷ p) point
      ] refl

  pub value_at-sum : (p q : Polynomial) (point : List M) → v (poly_sum p q) point ≡ o.add (v p point) (v q point)
  value_at-sum [] q point = sym (ring.zero_add L (v q point))
  value_at-sum ((es, c) ∷ p) q point =
      value_at-add_entry es c (poly_sum p q) point ∙ ap (o.add (o.mul (w c) (ps es point))) (value_at-sum p q point) ∙ sym (L.add_assoc _ _ _)

  regroup : (c d e f q r : M) → o.add (o.mul (o.mul c d) (o.mul e f)) (o.add (o.mul (o.mul c e) q) r) ≡ o.add (o.mul (o.mul c e) (o.add (o.mul d f) q)) r
  regroup c d e f q r = simp (L.mul_add, ring.add_mul L, L.add_assoc, L.mul_assoc, ring.mul_left_comm L, L.mul_comm)

  pub value_at-add_multiple : (es : List ℕ) (c : ℤ) (q r : Polynomial) (point : List M)
      → v (add_multiple es c q r) point ≡ o.add (o.mul (o.mul (w c) (ps es point)) (v q point)) (v r point)
  value_at-add_multiple es c [] r point = sym (ap (λ x. o.add x (v r point)) (ring.mul_zero L _) ∙ ring.zero_add L (v r point))
  value_at-add_multiple es c ((fs, d) ∷ q) r point =
      value_at-add_entry (exponents_sum es fs) (c *ℤ d) (add_multiple es c q r) point
      ∙ (λ i. o.add (o.mul (ring.integer_mul L c d i) (monomial_at-sum es fs point i)) (value_at-add_multiple es c q r point i))
      ∙ regroup (w c) (w d) (ps es point) (ps fs point) (v q point) (v r point)

  pub value_at-product : (p q : Polynomial) (point : List M) → v (poly_product p q) point ≡ o.mul (v p point) (v q point)
  value_at-product [] q point = sym (ring.zero_mul L (v q point))
  value_at-product ((es, c) ∷ p) q point =
      value_at-add_multiple es c q (poly_product p q) point ∙ ap (o.add (o.mul (o.mul (w c) (ps es point)) (v q point))) (value_at-product p q point)
      ∙ sym (ring.add_mul L _ _ _)

  pub value_at-scaled : (m : ℤ) (p : Polynomial) (point : List M) → v (poly_scaled m p) point ≡ o.mul (w m) (v p point)
  value_at-scaled m [] point = sym (ring.mul_zero L _)
  value_at-scaled m ((es, c) ∷ p) point =
      (λ i. o.add (o.mul (ring.integer_mul L m c i) (ps es point)) (value_at-scaled m p point i))
      ∙ ap (λ y. o.add y (o.mul (w m) (v p point))) (L.mul_assoc _ _ _)
      ∙ sym (L.mul_add _ _ _)

  pub value_at-negative : (p : Polynomial) (point : List M) → v (poly_negative p) point ≡ o.neg (v p point)
  value_at-negative [] point = sym (ring.neg_is_mul L o.zero ∙ ring.mul_zero L _)
  value_at-negative ((es, c) ∷ p) point =
      (λ i. o.add (o.mul ((ring.integer_neg L c ∙ ring.neg_is_mul L (w c)) i) (ps es point)) ((value_at-negative p point ∙ ring.neg_is_mul L (v p point)) i))
      ∙ ap (λ y. o.add y (o.mul (w (negsuc 0)) (v p point))) (L.mul_assoc _ _ _)
      ∙ sym (L.mul_add _ _ _) ∙ sym (ring.neg_is_mul L _)

  pub value_at-difference : (p q : Polynomial) (point : List M) → v (poly_difference p q) point ≡ o.add (v p point) (o.neg (v q point))
  value_at-difference p q point = value_at-sum p (poly_negative q) point ∙ ap (o.add (v p point)) (value_at-negative q point)

  pub monomial_at-none : (n : ℕ) (point : List M) → ps (replicate n 0) point ≡ o.one
  monomial_at-none zero point = refl
  monomial_at-none (suc n) [] = refl
  monomial_at-none (suc n) (x ∷ xs) = ring.one_mul L (ps (replicate n 0) xs) ∙ monomial_at-none n xs

  pub value_at-constant : (n : ℕ) (c : ℤ) (point : List M) → v (poly_constant n c) point ≡ w c
  value_at-constant n c point =
      value_at-with_entry (replicate n 0) c [] point ∙ L.add_zero _ ∙ ap (o.mul (w c)) (monomial_at-none n point) ∙ L.mul_one (w c)

  monomial_at-one : (n i : ℕ) (point : List M) → i < n → ps (set (replicate n 0) i 1) point ≡ get_or point i o.one
  monomial_at-one zero i point below = absurd (omega arith)
  monomial_at-one (suc n) zero [] below = refl
  monomial_at-one (suc n) (suc i) [] below = refl
  monomial_at-one (suc n) zero (x ∷ xs) below = ap (o.mul (o.mul x o.one)) (monomial_at-none n xs) ∙ L.mul_one (o.mul x o.one) ∙ L.mul_one x
  monomial_at-one (suc n) (suc i) (x ∷ xs) below = ring.one_mul L (ps (set (replicate n 0) i 1) xs) ∙ monomial_at-one n i xs (omega arith)

  pub value_at-variable : (n i : ℕ) (point : List M) → i < n → v (poly_variable n i) point ≡ get_or point i o.one
  value_at-variable n i point below =
      L.add_zero _ ∙ ap (λ y. o.mul y (ps (set (replicate n 0) i 1) point)) (L.add_zero o.one) ∙ ring.one_mul L _ ∙ monomial_at-one n i point below

-- The polynomials in a number of variables, each as its one list in order, are a ring.
use Rattle.std.proofs.Common.{◌≡◌, ◌≢◌, ℕ, ◌+◌, zero, suc, refl, List, [], ◌∷◌, length, replicate, sym, ◌∙◌, ap, subst, arith}
use Rattle.std.specs.Prelude.{ℤ, pos, negsuc, ◌+ℤ◌, ◌*ℤ◌, neg_ℤ}
use Rattle.std.proofs.lemmas.Int.{ints}
use Rattle.std.proofs.Math.Nat.{ℕ_set}
use Rattle.std.specs.Ordering.{Ordering-set}
use mathlib.Core.HLevel.{Σ_prop_path}
use Rattle.std.specs.declared.cmp.Ordering.TheVariants.{Less, Equal, Greater}
use Rattle.poly_model.specs.Domain.{Operations, IsCommutativeRing, integers}
use Rattle.poly_model.specs.Integers.{integers_ring}
use Rattle.poly_model.specs.Polynomial.{IsAbove, IsDescending, at_monomial, coefficient_of, sum_over, poly_negative, poly_difference, poly_scaled, poly_constant, poly_variable, Polynomial, monomial_cmp, exponents_sum, with_entry, add_entry, poly_sum, add_multiple, poly_product}
use Rattle.poly_model.specs.Values.{monomial_cmp-same, monomial_cmp-self}
use Rattle.poly_model.proofs.Order.{monomial_cmp-flip, monomial_cmp-trans, exponents_sum-comm, exponents_sum-length}
use Rattle.std.proofs.lemmas.List.{length-set}
use Rattle.poly_model.specs.Content.{content, primitive_part}
use Rattle.poly_model.proofs.Contents.{content-times-primitive_part}
use Rattle.poly_model.proofs.Sums as sums
use Rattle.poly_model.proofs.Sums.{IsAdditive}

above-prop : (e : List ℕ) (p : Polynomial) → IsProp (IsAbove e p)
above-prop e [] = hlevel
above-prop e ((f, d) ∷ p) = hlevel (Ordering-set, above-prop e p)

descending-prop : (n : ℕ) (p : Polynomial) → IsProp (IsDescending n p)
descending-prop n [] = hlevel
descending-prop n ((e, c) ∷ p) = hlevel (ℕ_set, above-prop e p, descending-prop n p)

-- ---- a sum keeps the order
above-with_entry : (g e : List ℕ) (c : ℤ) (p : Polynomial) → monomial_cmp g e ≡ Greater → IsAbove g p → IsAbove g (with_entry e c p)
above-with_entry g e (pos zero) p h b = b
above-with_entry g e (pos (suc n)) p h b = (h, b)
above-with_entry g e (negsuc n) p h b = (h, b)

descending-with_entry : (n : ℕ) (e : List ℕ) (c : ℤ) (p : Polynomial) → length e ≡ n → IsAbove e p → IsDescending n p → IsDescending n (with_entry e c p)
descending-with_entry n e (pos zero) p l b h = h
descending-with_entry n e (pos (suc k)) p l b h = (l, (λ z. cc), b, h)
descending-with_entry n e (negsuc k) p l b h = (l, (λ z. cc), b, h)

pub above-add_entry : (g e : List ℕ) (c : ℤ) (p : Polynomial) → monomial_cmp g e ≡ Greater → IsAbove g p → IsAbove g (add_entry e c p)
above-add_entry g e c [] h b = above-with_entry g e c [] h tt
above-add_entry g e c ((f, d) ∷ p) h b =
    elim (monomial_cmp e f) as (λ r. IsAbove g (elim r [ Less ↦ (f, d) ∷ add_entry e c p | Equal ↦ with_entry f (c +ℤ d) p | Greater ↦ with_entry e c ((f, d) ∷ p) ])) [
      | Less ↦ (b.0, above-add_entry g e c p h b.1)
      | Equal ↦ above-with_entry g f (c +ℤ d) p b.0 b.1
      | Greater ↦ above-with_entry g e c ((f, d) ∷ p) h b
    ]

pub above-lower : (g f : List ℕ) (p : Polynomial) → monomial_cmp g f ≡ Greater → IsAbove f p → IsAbove g p
above-lower g f [] h b = tt
above-lower g f ((e, c) ∷ p) h b = (monomial_cmp-trans g f e h b.0, above-lower g f p h b.1)

descending-add_entry : (n : ℕ) (e : List ℕ) (c : ℤ) (p : Polynomial) → length e ≡ n → IsDescending n p → IsDescending n (add_entry e c p)
descending-add_entry n e c [] l h = descending-with_entry n e c [] l tt tt
descending-add_entry n e c ((f, d) ∷ p) l h =
    elim (monomial_cmp e f) as (λ r. monomial_cmp e f ≡ r → IsDescending n (elim r [ Less ↦ (f, d) ∷ add_entry e c p | Equal ↦ with_entry f (c +ℤ d) p | Greater ↦ with_entry e c ((f, d) ∷ p) ])) [
      | Less ↦ λ q. (h.0, h.1, above-add_entry f e c p (monomial_cmp-flip e f q) h.2, descending-add_entry n e c p l h.3)
      | Equal ↦ λ q. descending-with_entry n f (c +ℤ d) p h.0 h.2 h.3
      | Greater ↦ λ q. descending-with_entry n e c ((f, d) ∷ p) l (q, above-lower e f p q h.2) h
    ] refl

pub descending-sum : (n : ℕ) (p q : Polynomial) → IsDescending n p → IsDescending n q → IsDescending n (poly_sum p q)
descending-sum n [] q h k = k
descending-sum n ((e, c) ∷ p) q h k = descending-add_entry n e c (poly_sum p q) h.0 (descending-sum n p q h.3 k)

pub descending-add_multiple : (n : ℕ) (e : List ℕ) (c : ℤ) (q r : Polynomial) → length e ≡ n → IsDescending n q → IsDescending n r → IsDescending n (add_multiple e c q r)
descending-add_multiple n e c [] r l h k = k
descending-add_multiple n e c ((f, d) ∷ q) r l h k = descending-add_entry n (exponents_sum e f) (c *ℤ d) (add_multiple e c q r) (exponents_sum-length n e f l h.0) (descending-add_multiple n e c q r l h.3 k)

pub descending-product : (n : ℕ) (p q : Polynomial) → IsDescending n p → IsDescending n q → IsDescending n (poly_product p q)
descending-product n [] q h k = tt
descending-product n ((e, c) ∷ p) q h k = descending-add_multiple n e c q (poly_product p q) h.0 k (descending-product n p q h.3 k)

-- ---- the coefficient at a monomial
pub at_monomial-additive : (x : List ℕ) → IsAdditive integers (at_monomial x)
at_monomial-additive x = record {
  at_zero = λ e. elim (monomial_cmp x e) as (λ r. elim r as (λ _. ℤ) [ Less ↦ pos 0 | Equal ↦ pos 0 | Greater ↦ pos 0 ] ≡ pos 0) [ Less ↦ refl | Equal ↦ refl | Greater ↦ refl ];
  at_sum = λ e c d. elim (monomial_cmp x e) as (λ r. elim r as (λ _. ℤ) [ Less ↦ pos 0 | Equal ↦ c +ℤ d | Greater ↦ pos 0 ] ≡ elim r as (λ _. ℤ) [ Less ↦ pos 0 | Equal ↦ c | Greater ↦ pos 0 ] +ℤ elim r as (λ _. ℤ) [ Less ↦ pos 0 | Equal ↦ d | Greater ↦ pos 0 ]) [ Less ↦ refl | Equal ↦ refl | Greater ↦ refl ];
}

-- above all entries there is none
coefficient_of-above : (x : List ℕ) (p : Polynomial) → IsAbove x p → coefficient_of x p ≡ pos 0
coefficient_of-above x [] b = refl
coefficient_of-above x ((e, c) ∷ p) b =
    ap (λ r. elim r as (λ _. ℤ) [ Less ↦ pos 0 | Equal ↦ c | Greater ↦ pos 0 ] +ℤ coefficient_of x p) b.0 ∙ ap (λ z. pos 0 +ℤ z) (coefficient_of-above x p b.1)

coefficient_of-first : (e : List ℕ) (c : ℤ) (p : Polynomial) → IsAbove e p → coefficient_of e ((e, c) ∷ p) ≡ c
coefficient_of-first e c p b =
    ap (λ r. elim r as (λ _. ℤ) [ Less ↦ pos 0 | Equal ↦ c | Greater ↦ pos 0 ] +ℤ coefficient_of e p) (monomial_cmp-self e)
    ∙ ap (λ z. c +ℤ z) (coefficient_of-above e p b) ∙ integers_ring.add_zero c

cancel_left : (x y z : ℤ) → x +ℤ y ≡ x +ℤ z → y ≡ z
cancel_left x y z e = omega (arith, ints, e)

same_front : (x e f : List ℕ) (c d : ℤ) (q : Polynomial) → e ≡ f → c ≡ d → at_monomial x e c +ℤ coefficient_of x q ≡ at_monomial x f d +ℤ coefficient_of x q
same_front x e f c d q same number i = at_monomial x (same i) (number i) +ℤ coefficient_of x q

-- two lists in order with the same coefficients are one
pub same_coefficients : (n : ℕ) (p q : Polynomial) → IsDescending n p → IsDescending n q → ((x : List ℕ) → coefficient_of x p ≡ coefficient_of x q) → p ≡ q
same_coefficients n [] [] h k s = refl
same_coefficients n [] ((f, d) ∷ q) h k s = absurd (k.1 (sym (s f ∙ coefficient_of-first f d q k.2)))
same_coefficients n ((e, c) ∷ p) [] h k s = absurd (h.1 (sym (coefficient_of-first e c p h.2) ∙ s e))
same_coefficients n ((e, c) ∷ p) ((f, d) ∷ q) h k s =
    elim (monomial_cmp e f) as (λ r. monomial_cmp e f ≡ r → (e, c) ∷ p ≡ (f, d) ∷ q) [
      | Less ↦ λ r.
          let above = monomial_cmp-flip e f r in
          absurd (k.1 (sym (coefficient_of-first f d q k.2) ∙ sym (s f) ∙ coefficient_of-above f ((e, c) ∷ p) (above, above-lower f e p above h.2)))
      | Greater ↦ λ r. absurd (h.1 (sym (coefficient_of-first e c p h.2) ∙ s e ∙ coefficient_of-above e ((f, d) ∷ q) (r, above-lower e f q r k.2)))
      | Equal ↦ λ r.
          let same : e ≡ f = monomial_cmp-same e f r in
          let number : c ≡ d = sym (coefficient_of-first e c p h.2) ∙ s e ∙ ap (λ x. coefficient_of x ((f, d) ∷ q)) same ∙ coefficient_of-first f d q k.2 in
          let rest : p ≡ q = same_coefficients n p q h.3 k.3 (λ x. cancel_left (at_monomial x e c) _ _ (s x ∙ sym (same_front x e f c d q same number))) in
          λ i. (same i, number i) ∷ rest i
    ] refl

-- ---- the ring
pub record OrderedPolynomial (n : ℕ) : Type 0 where
  pub list : Polynomial
  pub descending : IsDescending n list

pub same_lists : {n : ℕ} (p q : OrderedPolynomial n) → p.list ≡ q.list → p ≡ q
same_lists {n} p q e =
    let pairs : ◌≡◌ {A = (l : Polynomial) × IsDescending n l} (p.list, p.descending) (q.list, q.descending) = Σ_prop_path (λ l. descending-prop n l) e in
    λ i. record { list = (pairs i).0; descending = (pairs i).1 }

pub same_by : {n : ℕ} (p q : OrderedPolynomial n) → ((x : List ℕ) → coefficient_of x p.list ≡ coefficient_of x q.list) → p ≡ q
same_by {n} p q h = same_lists p q (same_coefficients n p.list q.list p.descending q.descending h)

pub constant_length : (n : ℕ) → length {A = ℕ} (replicate n 0) ≡ n
constant_length zero = refl
constant_length (suc n) = let e = constant_length n in omega (arith, e)

pub one_some : pos 1 ≢ pos 0
one_some z = cc

-- ---- a negative keeps the order
above-negative : (g : List ℕ) (p : Polynomial) → IsAbove g p → IsAbove g (poly_negative p)
above-negative g [] b = tt
above-negative g ((e, c) ∷ p) b = (b.0, above-negative g p b.1)

negative_some : (c : ℤ) → c ≢ pos 0 → neg_ℤ c ≢ pos 0
negative_some c n z = n (omega (arith, ints, z))

pub descending-negative : (n : ℕ) (p : Polynomial) → IsDescending n p → IsDescending n (poly_negative p)
descending-negative n [] h = tt
descending-negative n ((e, c) ∷ p) h = (h.0, negative_some c h.1, above-negative e p h.2, descending-negative n p h.3)

pub descending-difference : (n : ℕ) (p q : Polynomial) → IsDescending n p → IsDescending n q → IsDescending n (poly_difference p q)
descending-difference n p q h k = descending-sum n p (poly_negative q) h (descending-negative n q k)

abbrev pub ordered_operations : (n : ℕ) → Operations (OrderedPolynomial n)
ordered_operations n = record {
  zero = record { list = []; descending = tt };
  one = record { list = (replicate n 0, pos 1) ∷ []; descending = (constant_length n, one_some, tt, tt) };
  add = λ p q. record { list = poly_sum p.list q.list; descending = descending-sum n p.list q.list p.descending q.descending };
  mul = λ p q. record { list = poly_product p.list q.list; descending = descending-product n p.list q.list p.descending q.descending };
  neg = λ p. record { list = poly_negative p.list; descending = descending-negative n p.list p.descending };
}

add_none : (n : ℕ) (e : List ℕ) → length e ≡ n → exponents_sum (replicate n 0) e ≡ e
add_none zero e l = refl
add_none (suc n) [] l = absurd (omega arith)
add_none (suc n) (x ∷ e) l = λ i. (let h : 0 + x ≡ x = omega arith in h) i ∷ add_none n e (omega arith) i

module _ {φ : List ℕ → ℤ → ℤ} (A : IsAdditive integers φ) where
  add_none_over : (p : Polynomial) → sum_over integers φ (poly_sum p []) ≡ sum_over integers φ p
  add_none_over p = sums.sum_over-sum integers_ring A p [] ∙ integers_ring.add_zero (sum_over integers φ p)

  -- over lists whose entries have n exponents
  mul_one_over : (n : ℕ) (p : Polynomial) → IsDescending n p → sum_over integers φ (poly_product p ((replicate n 0, pos 1) ∷ [])) ≡ sum_over integers φ p
  mul_one_over n p h = sums.sum_over-product integers_ring A p ((replicate n 0, pos 1) ∷ []) ∙ terms n p h
    where
      terms : (n : ℕ) (p : Polynomial) → IsDescending n p → sum_over integers (λ e c. sum_over integers (λ f d. φ (exponents_sum e f) (c *ℤ d)) ((replicate n 0, pos 1) ∷ [])) p ≡ sum_over integers φ p
      terms n [] h = refl
      terms n ((e, c) ∷ p) h =
          let first : φ (exponents_sum e (replicate n 0)) (c *ℤ pos 1) ≡ φ e c = λ i. φ ((exponents_sum-comm e (replicate n 0) ∙ add_none n e h.0) i) (integers_ring.mul_one c i) in
          let whole_first : φ (exponents_sum e (replicate n 0)) (c *ℤ pos 1) +ℤ pos 0 ≡ φ e c = integers_ring.add_zero _ ∙ first in
          λ i. whole_first i +ℤ terms n p h.3 i

  negative_terms : (p : Polynomial) → sum_over integers φ p +ℤ sum_over integers φ (poly_negative p) ≡ pos 0
  negative_terms [] = refl
  negative_terms ((e, c) ∷ p) =
      four (φ e c) (sum_over integers φ p) (φ e (neg_ℤ c)) (sum_over integers φ (poly_negative p)) (opposite e c) (negative_terms p)
    where
      opposite : (e : List ℕ) (c : ℤ) → φ e c +ℤ φ e (neg_ℤ c) ≡ pos 0
      opposite e c = sym (A.at_sum e c (neg_ℤ c)) ∙ ap (φ e) (integers_ring.add_neg c) ∙ A.at_zero e

      four : (x y z t : ℤ) → x +ℤ z ≡ pos 0 → y +ℤ t ≡ pos 0 → (x +ℤ y) +ℤ (z +ℤ t) ≡ pos 0
      four x y z t p q = omega (arith, ints, p, q)

  add_negative : (p : Polynomial) → sum_over integers φ (poly_sum p (poly_negative p)) ≡ pos 0
  add_negative p = sums.sum_over-sum integers_ring A p (poly_negative p) ∙ negative_terms p

-- the coefficients of a difference
pub coefficient_of-difference : (xs : List ℕ) (p q : Polynomial) → coefficient_of xs (poly_difference p q) ≡ coefficient_of xs p +ℤ neg_ℤ (coefficient_of xs q)
coefficient_of-difference xs p q =
    sums.sum_over-sum integers_ring (at_monomial-additive xs) p (poly_negative q)
    ∙ ap (λ z. coefficient_of xs p +ℤ z) (opposite (coefficient_of xs q) (coefficient_of xs (poly_negative q)) (negative_terms (at_monomial-additive xs) q))
  where
    opposite : (y z : ℤ) → y +ℤ z ≡ pos 0 → z ≡ neg_ℤ y
    opposite y z e = omega (arith, ints, e)

pub ordered_ring : (n : ℕ) → IsCommutativeRing (ordered_operations n)
ordered_ring n = record {
  add_assoc = λ p q r. same_by _ _ (λ x. sums.same_add_assoc integers_ring (at_monomial-additive x) p.list q.list r.list);
  add_comm = λ p q. same_by _ _ (λ x. sums.same_add_comm integers_ring (at_monomial-additive x) p.list q.list);
  add_zero = λ p. same_by _ _ (λ x. add_none_over (at_monomial-additive x) p.list);
  add_neg = λ p. same_by _ _ (λ x. add_negative (at_monomial-additive x) p.list);
  mul_assoc = λ p q r. same_by _ _ (λ x. sums.same_mul_assoc integers_ring (at_monomial-additive x) p.list q.list r.list);
  mul_comm = λ p q. same_by _ _ (λ x. sums.same_mul_comm integers_ring (at_monomial-additive x) p.list q.list);
  mul_one = λ p. same_by _ _ (λ x. mul_one_over (at_monomial-additive x) n p.list p.descending);
  mul_add = λ p q r. same_by _ _ (λ x. sums.same_mul_add integers_ring (at_monomial-additive x) p.list q.list r.list);
}

-- ---- constants, variables and primitive parts are in order
pub descending-constant : (n : ℕ) (c : ℤ) → IsDescending n (poly_constant n c)
descending-constant n c = descending-with_entry n (replicate n 0) c [] (constant_length n) tt tt

pub descending-variable : (n i : ℕ) → IsDescending n (poly_variable n i)
descending-variable n i = (length-set (replicate n 0) i 1 ∙ constant_length n, one_some, tt, tt)

above-of_scaled : (g : List ℕ) (m : ℤ) (p : Polynomial) → IsAbove g (poly_scaled m p) → IsAbove g p
above-of_scaled g m [] b = tt
above-of_scaled g m ((e, c) ∷ p) b = (b.0, above-of_scaled g m p b.1)

pub descending-of_scaled : (n : ℕ) (m : ℤ) (p : Polynomial) → IsDescending n (poly_scaled m p) → IsDescending n p
descending-of_scaled n m [] h = tt
descending-of_scaled n m ((e, c) ∷ p) h =
    (h.0, (λ z. h.1 (ap (λ y. m *ℤ y) z ∙ (let q : m *ℤ pos 0 ≡ pos 0 = omega (arith, ints) in q))), above-of_scaled e m p h.2, descending-of_scaled n m p h.3)

pub descending-primitive_part : (n : ℕ) (p : Polynomial) → IsDescending n p → IsDescending n (primitive_part p)
descending-primitive_part n p h =
    descending-of_scaled n (content p) (primitive_part p) (subst (IsDescending n) (sym (content-times-primitive_part p)) h)

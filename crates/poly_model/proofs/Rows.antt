-- A product row by row, in the order of the first factor's entries, is the product.
use Rattle.std.proofs.Common.{◌≡◌, ℕ, refl, List, [], ◌∷◌, sym, ◌∙◌, ap, true, false}
use Rattle.std.specs.Prelude.{ℤ, ◌*ℤ◌, Result, Ok, Err}
use Rattle.poly_model.specs.Domain.{Operations, IsCommutativeRing}
use Rattle.poly_model.specs.Ring as ring
use Rattle.poly_model.specs.Integers.{integers_ring}
use Rattle.poly_model.specs.Polynomial.{Polynomial, IsDescending, exponents_sum, add_entry, add_multiple, poly_sum, poly_product, sum_over}
use Rattle.poly_model.proofs.Sums as sums
use Rattle.poly_model.proofs.Sums.{IsAdditive}
use Rattle.poly_model.proofs.Ordered.{at_monomial-additive, descending-add_multiple, descending-product, same_coefficients}
use Rattle.poly_model.specs.declared.limits.Limit.{Limit}
use Rattle.poly_model.specs.declared.limits.Limit.TheVariants.{Degree, Bound, Terms}
use Rattle.poly_model.specs.Standard.{are_bounded, is_short}
use Rattle.poly_model.specs.Bounded.{within_limits, bounded_sum, multiple, bounded_row, bounded_rows, degrees_fit, bounded_product}

pub add_multiple-is : (es : List ℕ) (c : ℤ) (q r : Polynomial) → add_multiple es c q r ≡ poly_sum (multiple es c q) r
add_multiple-is es c [] r = refl
add_multiple-is es c ((fs, d) ∷ q) r = ap (add_entry (exponents_sum es fs) (c *ℤ d)) (add_multiple-is es c q r)

-- the rows without limits
abbrev pub rows_onto : Polynomial → Polynomial → Polynomial → Polynomial
rows_onto [] q sum = sum
rows_onto ((e, c) ∷ p) q sum = rows_onto p q (add_multiple e c q sum)

sum_over-rows : {M : Type 0} {o : Operations M} (L : IsCommutativeRing o) {φ : List ℕ → ℤ → M} (A : IsAdditive o φ) (p q sum : Polynomial)
    → sum_over o φ (rows_onto p q sum) ≡ o.add (sum_over o φ (poly_product p q)) (sum_over o φ sum)
sum_over-rows L A [] q sum = sym (ring.zero_add L _)
sum_over-rows {o = o} L {φ} A ((e, c) ∷ p) q sum =
    sum_over-rows L A p q (add_multiple e c q sum) ∙ ap (o.add (sum_over o φ (poly_product p q))) (sums.sum_over-add_multiple L A e c q sum)
    ∙ ring.add_left_comm L _ _ _ ∙ sym (L.add_assoc _ _ _) ∙ ap (λ x. o.add x (sum_over o φ sum)) (sym (sums.sum_over-add_multiple L A e c q (poly_product p q)))

pub descending-rows : (n : ℕ) (p q sum : Polynomial) → IsDescending n p → IsDescending n q → IsDescending n sum → IsDescending n (rows_onto p q sum)
descending-rows n [] q sum h k s = s
descending-rows n ((e, c) ∷ p) q sum h k s = descending-rows n p q (add_multiple e c q sum) h.3 k (descending-add_multiple n e c q sum h.0 k s)

-- the rows make the product
pub rows-are : (n : ℕ) (p q : Polynomial) → IsDescending n p → IsDescending n q → rows_onto p q [] ≡ poly_product p q
rows-are n p q h k =
    same_coefficients n (rows_onto p q []) (poly_product p q) (descending-rows n p q [] h k tt) (descending-product n p q h k)
    (λ x. sum_over-rows integers_ring (at_monomial-additive x) p q [] ∙ integers_ring.add_zero _)

-- what is within the limits is the list itself
pub within-is : (p r : Polynomial) → within_limits p ≡ Ok r → r ≡ p
within-is p r is =
    elim (are_bounded p) as (λ b. elim b as (λ _. Result Polynomial Limit) [ false ↦ Err Bound | true ↦ elim (is_short p) [ false ↦ Err Terms | true ↦ Ok p ] ] ≡ Ok r → r ≡ p) [
      | false ↦ λ e. absurd (cc)
      | true ↦ λ e.
          elim (is_short p) as (λ b. elim b as (λ _. Result Polynomial Limit) [ false ↦ Err Terms | true ↦ Ok p ] ≡ Ok r → r ≡ p) [
            | false ↦ λ d. absurd (cc)
            | true ↦ λ d. cc
          ] e
    ] is

pub row-is : (e : List ℕ) (c : ℤ) (q sum r : Polynomial) → bounded_row e c q sum ≡ Ok r → r ≡ add_multiple e c q sum
row-is e c q sum r is =
    elim (are_bounded (multiple e c q)) as (λ b. elim b as (λ _. Result Polynomial Limit) [ false ↦ Err Bound | true ↦ bounded_sum (multiple e c q) sum ] ≡ Ok r → r ≡ add_multiple e c q sum) [
      | false ↦ λ e. absurd (cc)
      | true ↦ λ d. within-is _ _ d ∙ sym (add_multiple-is e c q sum)
    ] is

pub bounded_rows-are : (p q sum r : Polynomial) → bounded_rows p q sum ≡ Ok r → r ≡ rows_onto p q sum
bounded_rows-are [] q sum r e = cc
bounded_rows-are ((a, c) ∷ p) q sum r is =
    elim (bounded_row a c q sum) as (λ b. bounded_row a c q sum ≡ b → elim b as (λ _. Result Polynomial Limit) [ Err limit ↦ Err limit | Ok s ↦ bounded_rows p q s ] ≡ Ok r → r ≡ rows_onto p q (add_multiple a c q sum)) [
      | Err limit ↦ λ w e. absurd (cc)
      | Ok s ↦ λ w e. bounded_rows-are p q s r e ∙ ap (rows_onto p q) (row-is a c q sum s w)
    ] refl is

-- a product within the limits is the product
pub bounded_product-is : (n : ℕ) (p q r : Polynomial) → IsDescending n p → IsDescending n q → bounded_product p q ≡ Ok r → r ≡ poly_product p q
bounded_product-is n p q r h k is =
    elim (degrees_fit p q) as (λ b. elim b as (λ _. Result Polynomial Limit) [ false ↦ Err Degree | true ↦ bounded_rows p q [] ] ≡ Ok r → r ≡ poly_product p q) [
      | false ↦ λ e. absurd (cc)
      | true ↦ λ e. bounded_rows-are p q [] r e ∙ rows-are n p q h k
    ] is

-- Polynomials times numbers: as products with constants, and as content times primitive part.
use Rattle.std.proofs.Common.{◌≡◌, ◌≢◌, ℕ, ◌+◌, zero, suc, refl, List, [], ◌∷◌, length, replicate, sym, ◌∙◌, ap, arith, inl, inr}
use Rattle.std.specs.Prelude.{ℤ, pos, ◌*ℤ◌}
use Rattle.std.proofs.lemmas.Int.{ints}
use Rattle.poly_model.specs.Integers.{integers_ring, no_zero_divisors}
use Rattle.poly_model.specs.Polynomial.{Polynomial, IsAbove, IsDescending, exponents_sum, add_entry, add_multiple, poly_product, poly_scaled, poly_constant}
use Rattle.poly_model.specs.Content.{primitive_part}
use Rattle.poly_model.specs.Reduction.{parts_of}
use Rattle.poly_model.proofs.Ordered.{descending-primitive_part}
use Rattle.poly_model.proofs.Contents.{content-times-primitive_part}
use Rattle.poly_model.proofs.Merge.{put_top, with_some}

pub parts-times : (T : Polynomial) → T ≡ poly_scaled (parts_of T).0 (parts_of T).1
parts-times [] = refl
parts-times (e ∷ p) = sym (content-times-primitive_part (e ∷ p))

pub parts-descending : (n : ℕ) (T : Polynomial) → IsDescending n T → IsDescending n (parts_of T).1
parts-descending n T h = descending-primitive_part n T h

first_coefficient : Polynomial → ℤ
first_coefficient [] = pos 0
first_coefficient ((es, c) ∷ p) = c

scaled-zero : (p : Polynomial) → first_coefficient (poly_scaled (pos 0) p) ≡ pos 0
unfolding first_coefficient
scaled-zero [] = refl
scaled-zero ((es, c) ∷ p) = zero_times c
  where
    zero_times : (c : ℤ) → pos 0 *ℤ c ≡ pos 0
    zero_times c = omega (arith, ints)

pub parts-some : (n : ℕ) (T : Polynomial) → IsDescending n T → (parts_of T).0 ≢ pos 0
unfolding first_coefficient
parts-some n [] h e = cc
parts-some n ((es, c) ∷ p) h e =
    h.1 (ap first_coefficient (sym (content-times-primitive_part ((es, c) ∷ p))) ∙ ap (λ m. first_coefficient (poly_scaled m (primitive_part ((es, c) ∷ p)))) e ∙ scaled-zero (primitive_part ((es, c) ∷ p)))

-- ---- numbers as polynomials
none-sum : (n : ℕ) (e : List ℕ) → length e ≡ n → exponents_sum (replicate n 0) e ≡ e
none-sum zero e l = refl
none-sum (suc n) [] l = absurd (omega (arith, l))
none-sum (suc n) (x ∷ e) l = λ i. (let h : 0 + x ≡ x = omega arith in h) i ∷ none-sum n e (omega (arith, l)) i

above-scaled : (es : List ℕ) (m : ℤ) (p : Polynomial) → IsAbove es p → IsAbove es (poly_scaled m p)
above-scaled es m [] a = tt
above-scaled es m ((fs, c) ∷ p) a = (a.0, above-scaled es m p a.1)

pub times-some : (m c : ℤ) → m ≢ pos 0 → c ≢ pos 0 → m *ℤ c ≢ pos 0
times-some m c a b e = elim (no_zero_divisors m c e) [ inl h ↦ a h | inr h ↦ b h ]

pub descending-scaled : (n : ℕ) (m : ℤ) (p : Polynomial) → m ≢ pos 0 → IsDescending n p → IsDescending n (poly_scaled m p)
descending-scaled n m [] s h = tt
descending-scaled n m ((es, c) ∷ p) s h = (h.0, times-some m c s h.1, above-scaled es m p h.2, descending-scaled n m p s h.3)

multiple-is-scaled : (n : ℕ) (m : ℤ) (p : Polynomial) → m ≢ pos 0 → IsDescending n p → add_multiple (replicate n 0) m p [] ≡ poly_scaled m p
multiple-is-scaled n m [] s h = refl
multiple-is-scaled n m ((es, c) ∷ p) s h =
    (λ i. add_entry (none-sum n es h.0 i) (m *ℤ c) (multiple-is-scaled n m p s h.3 i))
    ∙ put_top es (m *ℤ c) (poly_scaled m p) (above-scaled es m p h.2) ∙ with_some es (m *ℤ c) _ (times-some m c s h.1)

pub constant-product : (n : ℕ) (m : ℤ) (p : Polynomial) → m ≢ pos 0 → IsDescending n p → poly_product (poly_constant n m) p ≡ poly_scaled m p
constant-product n m p s h = ap (λ l. poly_product l p) (with_some (replicate n 0) m [] s) ∙ multiple-is-scaled n m p s h

pub scaled-twice : (m k : ℤ) (p : Polynomial) → poly_scaled m (poly_scaled k p) ≡ poly_scaled (m *ℤ k) p
scaled-twice m k [] = refl
scaled-twice m k ((es, c) ∷ p) = λ i. (es, sym (integers_ring.mul_assoc m k c) i) ∷ scaled-twice m k p i

pub scaled-one : (p : Polynomial) → poly_scaled (pos 1) p ≡ p
scaled-one [] = refl
scaled-one ((es, c) ∷ p) = λ i. (es, one c i) ∷ scaled-one p i
  where
    one : (c : ℤ) → pos 1 *ℤ c ≡ c
    one c = omega (arith, ints)

pub one-product : (n : ℕ) (p : Polynomial) → IsDescending n p → poly_product (poly_constant n (pos 1)) p ≡ p
one-product n p h = constant-product n (pos 1) p (λ e. cc) h ∙ scaled-one p

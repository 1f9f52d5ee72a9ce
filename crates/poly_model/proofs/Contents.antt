-- A polynomial is its content times its primitive part, and has the zeros of its primitive part.
use Rattle.std.proofs.Common.{◌≡◌, ◌≢◌, ℕ, ◌+◌, ◌*◌, ◌/◌, ◌%◌, ◌<◌, zero, suc, refl, List, [], ◌∷◌, map, sym, ◌∙◌, ap, arith, Bool, true, false, nat_eq, inl, inr, ◌↔◌}
use Rattle.std.specs.Prelude.{ℤ, pos, negsuc, ◌*ℤ◌, neg_ℤ, unsigned_abs}
use Rattle.std.specs.Int.{IsGcd}
use Rattle.std.proofs.lemmas.Bool.{eqb-true}
use Rattle.std.proofs.lemmas.Nat.Gcd.{IsGcd-from_zero, IsGcd-from_mod, mod-eq-zero_of_dvd, dvd_trans, dvd_refl}
use Prim.Native.Nat.{◌∣◌}
use Rattle.poly_model.specs.Domain.{Operations, IsDomain, natural_in, integer_in}
use Rattle.poly_model.specs.Ring as ring
use Rattle.poly_model.specs.Polynomial.{Polynomial, monomial_at, value_at, poly_scaled}
use Rattle.poly_model.specs.Values as values
use Rattle.poly_model.specs.Content.{gcd_within, gcd, coefficients_gcd, begins_negative, signed_by, content, quotient_of, entries_divided, primitive_part}
use Rattle.poly_model.specs.Zeros.{AllZero, NoneZero}
use Rattle.poly_model.specs.Integers.{integers_ring, integers_zero_or_not}
use Rattle.poly_model.specs.Solve.{Var, Mul, Neg, solve}

gcd_within-is : (k a b : ℕ) → b < k → IsGcd a b (gcd_within k a b)
gcd_within-is zero a b lt = absurd (omega arith)
gcd_within-is (suc k) a b lt =
    elim (nat_eq b 0) as (λ t. nat_eq b 0 ≡ t → IsGcd a b (elim t [ true ↦ a | false ↦ gcd_within k b (a % b) ])) [
      | true ↦ λ e. IsGcd-from_zero a b (eqb-true b 0 e)
      | false ↦ λ e. IsGcd-from_mod a b _ (gcd_within-is k b (a % b) (smaller k a b lt e))
    ] refl
  where
    smaller : (k a b : ℕ) → b < suc k → nat_eq b 0 ≡ false → a % b < k
    smaller k a zero lt e = absurd (let h : true ≡ false = e in cc)
    smaller k a (suc b) lt e = omega arith

pub gcd-is : (a b : ℕ) → IsGcd a b (gcd a b)
gcd-is a b = gcd_within-is (b + 1) a b (omega arith)

quotient_of-exact : (c : ℤ) (m : ℕ) → m ∣ unsigned_abs c → pos m *ℤ quotient_of c m ≡ c
quotient_of-exact (pos a) m d = let e = mod-eq-zero_of_dvd m d in ap pos (omega (arith, e))
quotient_of-exact (negsuc a) m d =
    let e = mod-eq-zero_of_dvd m d in
    let q : m * (suc a / m) ≡ suc a = omega (arith, e) in
    times_neg m (suc a / m) ∙ ap (λ n. neg_ℤ (pos n)) q
  where
    times_neg : (m n : ℕ) → pos m *ℤ neg_ℤ (pos n) ≡ neg_ℤ (pos (m * n))
    times_neg m n = solve integers_ring (pos m ∷ pos n ∷ []) (Mul (Var 0) (Neg (Var 1))) (Neg (Mul (Var 0) (Var 1))) refl

signed_twice : (s : Bool) (m : ℕ) (z : ℤ) → signed_by s (pos m) *ℤ signed_by s z ≡ pos m *ℤ z
signed_twice true m z = solve integers_ring (pos m ∷ z ∷ []) (Mul (Neg (Var 0)) (Neg (Var 1))) (Mul (Var 0) (Var 1)) refl
signed_twice false m z = refl

scaled-divided : (s : Bool) (m : ℕ) (p : Polynomial) → m ∣ coefficients_gcd p → poly_scaled (signed_by s (pos m)) (entries_divided s m p) ≡ p
scaled-divided s m [] d = refl
scaled-divided s m ((es, c) ∷ p) d =
    let g = gcd-is (unsigned_abs c) (coefficients_gcd p) in
    λ i. (es, (signed_twice s m (quotient_of c m) ∙ quotient_of-exact c m (dvd_trans m d g.0)) i) ∷ scaled-divided s m p (dvd_trans m d g.1) i

pub content-times-primitive_part : (p : Polynomial) → poly_scaled (content p) (primitive_part p) ≡ p
content-times-primitive_part p = scaled-divided (begins_negative p) (coefficients_gcd p) p (dvd_refl (coefficients_gcd p))

zero-content : (turned : Bool) (g : ℕ) → signed_by turned (pos g) ≡ pos 0 → g ≡ 0
zero-content true zero e = refl
zero-content true (suc g) e = absurd (let h : negsuc g ≡ pos 0 = e in cc)
zero-content false g e = ap unsigned_abs e

zero-quotient : (turned : Bool) (c : ℤ) (m : ℕ) → unsigned_abs c ≡ 0 → signed_by turned (quotient_of c m) ≡ pos 0
zero-quotient turned (negsuc n) m e = absurd (omega (arith, e))
zero-quotient true (pos n) m e = ap (λ (k : ℕ). neg_ℤ (pos (k / m))) e ∙ ap (λ (k : ℕ). neg_ℤ (pos k)) (let q : 0 / m ≡ 0 = omega arith in q)
zero-quotient false (pos n) m e = ap (λ (k : ℕ). pos (k / m)) e ∙ ap pos (let q : 0 / m ≡ 0 = omega arith in q)

divides-zero : (g n : ℕ) → g ≡ 0 → g ∣ n → n ≡ 0
divides-zero g n e d = omega (arith, mod-eq-zero_of_dvd g d)

module _ {M : Type 0} {o : Operations M} (L : IsDomain o) where
  pub integer_in-not_zero : (z : ℤ) → z ≢ pos 0 → integer_in o z ≢ o.zero
  integer_in-not_zero (pos zero) n e = n refl
  integer_in-not_zero (pos (suc k)) n e = L.characteristic_zero k e
  integer_in-not_zero (negsuc k) n e =
      L.characteristic_zero k (sym (ring.zero_add L.ring _) ∙ ap (λ y. o.add y (natural_in o (suc k))) (sym e) ∙ ring.neg_add_self L.ring (natural_in o (suc k)))

  pub other_factor : (x y : M) → o.mul x y ≡ o.zero → x ≢ o.zero → y ≡ o.zero
  other_factor x y e n = elim (L.no_zero_divisors x y e) [ inl h ↦ absurd (n h) | inr h ↦ h ]

  pub zero-of_scaled : (m : ℤ) (p : Polynomial) (point : List M) → m ≢ pos 0 → value_at o (poly_scaled m p) point ≡ o.zero → value_at o p point ≡ o.zero
  zero-of_scaled m p point n e = other_factor (integer_in o m) (value_at o p point) (sym (values.value_at-scaled L.ring m p point) ∙ e) (integer_in-not_zero m n)

  pub zero-scaled : (m : ℤ) (p : Polynomial) (point : List M) → value_at o p point ≡ o.zero → value_at o (poly_scaled m p) point ≡ o.zero
  zero-scaled m p point e = values.value_at-scaled L.ring m p point ∙ ap (o.mul (integer_in o m)) e ∙ ring.mul_zero L.ring _

  zero-divided : (turned : Bool) (m : ℕ) (p : Polynomial) (point : List M) → coefficients_gcd p ≡ 0 → value_at o (entries_divided turned m p) point ≡ o.zero
  zero-divided turned m [] point e = refl
  zero-divided turned m ((es, c) ∷ p) point e =
      let g = gcd-is (unsigned_abs c) (coefficients_gcd p) in
      let c0 = zero-quotient turned c m (divides-zero _ _ e g.0) in
      ap (λ z. o.add (o.mul (integer_in o z) (monomial_at o es point)) (value_at o (entries_divided turned m p) point)) c0
      ∙ ap (λ y. o.add y (value_at o (entries_divided turned m p) point)) (ring.zero_mul L.ring _) ∙ ring.zero_add L.ring _
      ∙ zero-divided turned m p point (divides-zero _ _ e g.1)

  -- a polynomial and its primitive part have the same zeros
  pub primitive_part-zero : (p : Polynomial) (point : List M) → value_at o p point ≡ o.zero ↔ value_at o (primitive_part p) point ≡ o.zero
  primitive_part-zero p point =
      let back : value_at o (primitive_part p) point ≡ o.zero → value_at o p point ≡ o.zero = λ z. ap (λ q. value_at o q point) (sym (content-times-primitive_part p)) ∙ zero-scaled (content p) (primitive_part p) point z in
      elim (integers_zero_or_not (content p)) [
        | inl e ↦ (λ z. zero-divided (begins_negative p) (coefficients_gcd p) p point (zero-content (begins_negative p) (coefficients_gcd p) e), back)
        | inr n ↦ (λ z. zero-of_scaled (content p) (primitive_part p) point n (ap (λ q. value_at o q point) (content-times-primitive_part p) ∙ z), back)
      ]

  pub AllZero-primitive_parts : (E : List Polynomial) (point : List M) → AllZero o E point ↔ AllZero o (map primitive_part E) point
  AllZero-primitive_parts [] point = (λ z. z, λ z. z)
  AllZero-primitive_parts (p ∷ E) point =
      let first = primitive_part-zero p point in
      let rest = AllZero-primitive_parts E point in
      (λ z. (first.0 z.0, rest.0 z.1), λ z. (first.1 z.0, rest.1 z.1))

  pub NoneZero-primitive_parts : (N : List Polynomial) (point : List M) → NoneZero o N point ↔ NoneZero o (map primitive_part N) point
  NoneZero-primitive_parts [] point = (λ z. z, λ z. z)
  NoneZero-primitive_parts (p ∷ N) point =
      let first = primitive_part-zero p point in
      let rest = NoneZero-primitive_parts N point in
      (λ z. ((λ e. z.0 (first.1 e)), rest.0 z.1), λ z. ((λ e. z.0 (first.0 e)), rest.1 z.1))

-- The coefficients of a primitive part have no common divisor but 1, and it is its own primitive part.
use Rattle.std.proofs.Common.{◌≡◌, ◌≢◌, ℕ, ◌+◌, ◌*◌, ◌/◌, ◌%◌, ◌<◌, zero, suc, refl, List, [], ◌∷◌, sym, ◌∙◌, ap, subst, arith, Bool, true, false, nat_eq}
use Rattle.std.specs.Prelude.{ℤ, pos, negsuc, neg_ℤ, unsigned_abs}
use Rattle.std.specs.Int.{IsGcd}
use Rattle.std.proofs.lemmas.Bool.{eqb-true}
use Rattle.std.proofs.lemmas.Nat.Gcd.{IsGcd-from_zero, IsGcd-from_mod, same_from_IsGcd, mod-eq-zero_of_dvd, dvd_trans, dvd_refl}
use Rattle.std.proofs.Math.Nat.{mul-add-mod_self_left, mod-eq_of_lt, mod-lt, mul-lt-mul_of_pos_left, mul_assoc, mul-div_cancel', div-one, eq_of_mul-eq-mul_left}
use Prim.Native.Nat.{◌∣◌}
use Rattle.poly_model.specs.Polynomial.{Polynomial, IsDescending}
use Rattle.poly_model.specs.Content.{gcd_within, gcd, coefficients_gcd, is_negative, begins_negative, signed_by, quotient_of, entries_divided, primitive_part}
use Rattle.poly_model.proofs.Contents.{gcd-is}

mod_times : (m a b : ℕ) → 0 < m → 0 < b → (m * a) % (m * b) ≡ m * (a % b)
mod_times m a b some more =
    let e : a ≡ b * (a / b) + a % b = omega arith in
    let parts : m * a ≡ (m * b) * (a / b) + m * (a % b) = omega (arith, ap (λ n. m * n) e, mul_assoc m b (a / b)) in
    ap (λ n. n % (m * b)) parts ∙ mul-add-mod_self_left (m * b) (a / b) (m * (a % b)) ∙ mod-eq_of_lt (mul-lt-mul_of_pos_left (mod-lt a more) some)

some_divisor : (b : ℕ) → nat_eq b 0 ≡ false → 0 < b
some_divisor zero e = absurd (let h : true ≡ false = e in cc)
some_divisor (suc b) e = omega arith

scaled_gcd : (m k a b : ℕ) → 0 < m → b < k → IsGcd (m * a) (m * b) (m * gcd_within k a b)
scaled_gcd m zero a b some lt = absurd (omega (arith, lt))
scaled_gcd m (suc k) a b some lt =
    elim (nat_eq b 0) as (λ t. nat_eq b 0 ≡ t → IsGcd (m * a) (m * b) (m * elim t [ true ↦ a | false ↦ gcd_within k b (a % b) ])) [
      | true ↦ λ e. IsGcd-from_zero (m * a) (m * b) (ap (λ n. m * n) (eqb-true b 0 e) ∙ omega arith)
      | false ↦ λ e.
          let more = some_divisor b e in
          IsGcd-from_mod (m * a) (m * b) _
          (subst (λ r. IsGcd (m * b) r (m * gcd_within k b (a % b))) (sym (mod_times m a b some more)) (scaled_gcd m k b (a % b) some (omega (arith, lt, mod-lt a more))))
    ] refl

gcd_times : (m a b : ℕ) → 0 < m → m * gcd a b ≡ gcd (m * a) (m * b)
gcd_times m a b some = same_from_IsGcd (m * a) (m * b) _ _ (scaled_gcd m (b + 1) a b some (omega arith)) (gcd-is (m * a) (m * b))

abs-quotient : (s : Bool) (c : ℤ) (m : ℕ) → m ∣ unsigned_abs c → m * unsigned_abs (signed_by s (quotient_of c m)) ≡ unsigned_abs c
abs-quotient s c m d = ap (λ n. m * n) (turned s (quotient_of c m) ∙ size c m) ∙ mul-div_cancel' m d
  where
    turned : (s : Bool) (z : ℤ) → unsigned_abs (signed_by s z) ≡ unsigned_abs z
    turned true (pos zero) = refl
    turned true (pos (suc n)) = refl
    turned true (negsuc n) = refl
    turned false z = refl

    size : (c : ℤ) (m : ℕ) → unsigned_abs (quotient_of c m) ≡ unsigned_abs c / m
    size (pos a) m = refl
    size (negsuc a) m = turned true (pos (suc a / m))

divided_gcd : (s : Bool) (m : ℕ) (p : Polynomial) → 0 < m → m ∣ coefficients_gcd p → m * coefficients_gcd (entries_divided s m p) ≡ coefficients_gcd p
divided_gcd s m [] some d = omega arith
divided_gcd s m ((es, c) ∷ p) some d =
    let g = gcd-is (unsigned_abs c) (coefficients_gcd p) in
    gcd_times m _ _ some ∙ (λ i. gcd (abs-quotient s c m (dvd_trans m d g.0) i) (divided_gcd s m p some (dvd_trans m d g.1) i))

-- The coefficients of a primitive part have no common divisor but 1.
pub primitive_part-gcd : (p : Polynomial) → 0 < coefficients_gcd p → coefficients_gcd (primitive_part p) ≡ 1
primitive_part-gcd p some =
    eq_of_mul-eq-mul_left (coefficients_gcd p) some _ 1 (divided_gcd (begins_negative p) (coefficients_gcd p) p some (dvd_refl (coefficients_gcd p)) ∙ omega arith)

begins_not_negative : (m : ℕ) (p : Polynomial) → begins_negative (entries_divided (begins_negative p) m p) ≡ false
begins_not_negative m [] = refl
begins_not_negative m ((es, pos a) ∷ p) = refl
begins_not_negative m ((es, negsuc a) ∷ p) = twice (suc a / m)
  where
    twice : (n : ℕ) → is_negative (neg_ℤ (neg_ℤ (pos n))) ≡ false
    twice zero = refl
    twice (suc n) = refl

divided_by_one : (p : Polynomial) → entries_divided false 1 p ≡ p
divided_by_one [] = refl
divided_by_one ((es, pos a) ∷ p) = λ i. (es, pos (div-one a i)) ∷ divided_by_one p i
divided_by_one ((es, negsuc a) ∷ p) = λ i. (es, neg_ℤ (pos (div-one (suc a) i))) ∷ divided_by_one p i

pub primitive_part-again : (p : Polynomial) → 0 < coefficients_gcd p → primitive_part (primitive_part p) ≡ primitive_part p
primitive_part-again p some =
    (λ i. entries_divided (begins_not_negative (coefficients_gcd p) p i) (primitive_part-gcd p some i) (primitive_part p)) ∙ divided_by_one (primitive_part p)

-- The coefficients of a list in order have a divisor above 0.
pub divisor_some : (n : ℕ) (es : List ℕ) (c : ℤ) (p : Polynomial) → IsDescending n ((es, c) ∷ p) → 0 < coefficients_gcd ((es, c) ∷ p)
divisor_some n es c p h = positive (unsigned_abs c) (coefficients_gcd ((es, c) ∷ p)) (some c h.1) (gcd-is (unsigned_abs c) (coefficients_gcd p)).0
  where
    some : (c : ℤ) → c ≢ pos 0 → 0 < unsigned_abs c
    some (pos zero) n = absurd (n refl)
    some (pos (suc k)) n = omega arith
    some (negsuc k) n = omega arith

    positive : (a g : ℕ) → 0 < a → g ∣ a → 0 < g
    positive a zero lt d = absurd (omega (arith, mod-eq-zero_of_dvd 0 d))
    positive a (suc g) lt d = omega arith

pub coefficients-coprime : (n : ℕ) (p : Polynomial) → IsDescending n p → p ≢ [] → coefficients_gcd (primitive_part p) ≡ 1
coefficients-coprime n [] h some = absurd (some refl)
coefficients-coprime n ((es, c) ∷ p) h some = primitive_part-gcd ((es, c) ∷ p) (divisor_some n es c p h)

pub own-primitive_part : (n : ℕ) (p : Polynomial) → IsDescending n p → primitive_part (primitive_part p) ≡ primitive_part p
own-primitive_part n [] h = refl
own-primitive_part n ((es, c) ∷ p) h = primitive_part-again ((es, c) ∷ p) (divisor_some n es c p h)

-- A number of millionths as a ratio: its value, and that it is in lowest terms.
use Rattle.std.proofs.Common.{◌≡◌, ◌≤◌, ◌<◌, ◌*◌, ◌/◌, ℕ, zero, suc, [], ◌∷◌, refl, sym, ◌∙◌, ap, subst, arith}
use Prim.Native.Nat.{◌∣◌}
use Rattle.std.specs.Prelude.{ℤ, pos, negsuc, neg_ℤ, ◌*ℤ◌, unsigned_abs}
use Rattle.std.specs.Int.{IsGcd}
use Rattle.std.proofs.Math.Nat.{mul_assoc, mul-div_cancel', dvd-mul_right}
use Rattle.std.proofs.lemmas.Nat.Gcd.{le_from_IsGcd}
use Rattle.poly_model.specs.Content.{quotient_of}
use Rattle.poly_model.specs.Integers.{integers_ring}
use Rattle.poly_model.specs.Solve.{Var, Mul, Neg, solve}
use Rattle.poly_model.proofs.Contents.{gcd-is}
use Rattle.algebraize.specs.declared.ratio.TheConstants.{MILLIONTHS}
use Rattle.algebraize.specs.Ratio.{common_factor, numerator, denominator}
use Rattle.algebraize.proofs.Small.{size-quotient}

factor-is : (t : ℤ) → IsGcd MILLIONTHS (unsigned_abs t) (common_factor t)
factor-is t = gcd-is MILLIONTHS (unsigned_abs t)

-- a divisor, and what is left of the number
divisor-some : (a g : ℕ) → 0 < a → g ∣ a → 0 < g
divisor-some a zero some d = absurd (omega (arith, some, mul-div_cancel' 0 d))
divisor-some a (suc g) some d = omega arith

quotient-some : (a g : ℕ) → 0 < a → g ∣ a → 0 < a / g
quotient-some a g some d = left (a / g) (mul-div_cancel' g d)
  where
    left : (q : ℕ) → g * q ≡ a → 0 < q
    left zero e = absurd (omega (arith, some, e))
    left (suc q) e = omega arith

-- the value
quotient-times : (t : ℤ) (g : ℕ) → g ∣ unsigned_abs t → pos g *ℤ quotient_of t g ≡ t
quotient-times (pos a) g d = ap pos (mul-div_cancel' g d)
quotient-times (negsuc a) g d =
    solve integers_ring (pos g ∷ pos (suc a / g) ∷ []) (Mul (Var 0) (Neg (Var 1))) (Neg (Mul (Var 0) (Var 1))) refl
    ∙ ap (λ n. neg_ℤ (pos n)) (mul-div_cancel' g d)

value-of : (t : ℤ) (a g : ℕ) → g ∣ a → g ∣ unsigned_abs t → quotient_of t g *ℤ pos a ≡ t *ℤ pos (a / g)
value-of t a g whole d =
    ap (λ n. quotient_of t g *ℤ pos n) (sym (mul-div_cancel' g whole))
    ∙ solve integers_ring (quotient_of t g ∷ pos g ∷ pos (a / g) ∷ []) (Mul (Var 0) (Mul (Var 1) (Var 2))) (Mul (Mul (Var 1) (Var 0)) (Var 2)) refl
    ∙ ap (λ z. z *ℤ pos (a / g)) (quotient-times t g d)

pub value : (t : ℤ) → numerator t *ℤ pos MILLIONTHS ≡ t *ℤ pos (denominator t)
value t = let g = factor-is t in value-of t MILLIONTHS (common_factor t) g.0 g.1

pub positive : (t : ℤ) → 0 < denominator t
positive t = quotient-some MILLIONTHS (common_factor t) (omega arith) (factor-is t).0

-- what divides both parts
common-divides : (a g k m : ℕ) → g ∣ a → k * m ≡ a / g → (g * k) ∣ a
common-divides a g k m d e = subst (λ n. (g * k) ∣ n) (mul_assoc g k m ∙ ap (λ n. g * n) e ∙ mul-div_cancel' g d) (dvd-mul_right (g * k) m)

only-one : (g k n b : ℕ) → 0 < g → 0 < b → k * n ≡ b → g * k ≤ g → k ≡ 1
only-one g zero n b some more e le = absurd (omega (arith, more, e))
only-one g (suc zero) n b some more e le = refl
only-one g (suc (suc k)) n b some more e le = absurd (omega (arith, some, le))

lowest-of : (a b g k m n : ℕ) → IsGcd a b g → 0 < a → k * m ≡ b / g → k * n ≡ a / g → k ≡ 1
lowest-of a b g k m n h some em en =
    let g-some = divisor-some a g some h.0 in
    only-one g k n (a / g) g-some (quotient-some a g some h.0) en
    (le_from_IsGcd a b g (g * k) h g-some (common-divides a g k n h.0 en) (common-divides b g k m h.1 em))

pub lowest : (t : ℤ) (k m n : ℕ) → k * m ≡ unsigned_abs (numerator t) → k * n ≡ denominator t → k ≡ 1
lowest t k m n em en = lowest-of MILLIONTHS (unsigned_abs t) (common_factor t) k m n (factor-is t) (omega arith) (em ∙ size-quotient t (common_factor t)) en

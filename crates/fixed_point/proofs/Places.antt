-- Decimals that are written one at a time.
use Rattle.std.proofs.Common.{◌≡◌, ℕ, zero, suc, ◌+◌, ◌-◌, ◌*◌, ◌/◌, ◌%◌, ◌^◌, ◌<◌, ◌≤◌, List, [], ◌∷◌, ◌++◌, refl, ap, sym, arith, false, ◌==◌, ℤ, pos, negsuc, unsigned_abs, ◌≤ℤ◌, ◌<ℤ◌, decimal}
use Rattle.std.proofs.lemmas.Bool.Decides.{nat_tests}
use Rattle.std.proofs.lemmas.Int.{ints}
use Rattle.fixed_point.specs.Text.{decimals_text, point_text, size_text, number_text}
use Rattle.fixed_point.proofs.Again.{power, positive}

pub some-places : (places m : ℕ) → 0 < m → m < 10 ^ places → 0 < places
some-places zero m h l = absurd (omega (arith, h, l))
some-places (suc places) m h l = omega arith

top : (m p : ℕ) → 0 < p → m < 10 * p → m / p < 10
top m p l h = grind arith

pub digit-small : (places m unit : ℕ) → 0 < m → m < 10 ^ places → unit ≡ 10 ^ (places - 1) → m / unit < 10
digit-small zero m unit h l e = absurd (omega (arith, h, l))
digit-small (suc places) m unit h l e =
    let q : suc places - 1 ≡ places = omega arith in
    rw (e, q) (top m (10 ^ places) (positive places) (rw (← power places) l))

pub rest-small : (places m unit : ℕ) → unit ≡ 10 ^ (places - 1) → m % unit < 10 ^ (places - 1)
rest-small places m unit e = rw e (omega (arith, positive (places - 1)))

-- The first of the decimals, and the others.
pub first-decimal : (places m unit : ℕ) → 0 < m → m < 10 ^ places → unit ≡ 10 ^ (places - 1) →
    decimals_text places m ≡ (48 + m / unit) ∷ decimals_text (places - 1) (m % unit)
unfolding decimals_text
first-decimal zero m unit h l e = absurd (omega (arith, h, l))
first-decimal (suc places) m unit h l e =
    let q : suc places - 1 ≡ places = omega arith in
    let z : (m == 0) ≡ false = grind (arith, nat_tests) in
    rw (e, q, z) refl

pub no-decimals : (places m : ℕ) → m ≤ 0 → decimals_text places m ≡ []
unfolding decimals_text
no-decimals zero m h = refl
no-decimals (suc places) m h = let z : m ≡ 0 = omega (arith, h) in rw z refl

-- Decimals that are some stand behind a point.
pub decimals-pointed : (places m : ℕ) → 0 < m → m < 10 ^ places → point_text (decimals_text places m) ≡ 46 ∷ decimals_text places m
decimals-pointed places m h l =
    rw (first-decimal places m (10 ^ (places - 1)) h l refl) refl

-- The texts of numbers with and without a sign.
pub text-unsigned : (places n : ℕ) (z : ℤ) → pos 0 ≤ℤ z → n ≡ unsigned_abs z → number_text places z ≡ size_text places n
unfolding number_text
text-unsigned places n (pos m) h e = ap (size_text places) (sym e)
text-unsigned places n (negsuc m) h e = absurd (omega (arith, ints))

pub text-negative : (places n : ℕ) (z : ℤ) → z <ℤ pos 0 → n ≡ unsigned_abs z → number_text places z ≡ 45 ∷ size_text places n
unfolding number_text
text-negative places n (pos m) h e = absurd (omega (arith, ints))
text-negative places n (negsuc m) h e = ap (λ k. 45 ∷ size_text places k) (sym e)

-- The two parts of a text without a sign.
pub size-parts : (places n unit : ℕ) (whole : List ℕ) → unit ≡ 10 ^ places → whole ≡ decimal (n / unit) →
    size_text places n ≡ whole ++ point_text (decimals_text places (n % unit))
unfolding size_text
size-parts places n unit whole e w = rw (w, e) refl

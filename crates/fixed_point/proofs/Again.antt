-- What is written is read as the same value.
use Rattle.std.proofs.Common.{◌≡◌, ℕ, zero, suc, ◌+◌, ◌-◌, ◌*◌, ◌/◌, ◌%◌, ◌^◌, ◌<◌, ◌≤◌, List, [], ◌∷◌, length, refl, ap, sym, ◌∙◌, arith, Bool, true, false, cond, ◌==◌, ◌++◌, rules, take, drop, zero-add, nat_lt, ℤ, pos, negsuc, unsigned_abs, Some, None, Ok}
use Rattle.std.specs.List.{position_or_len}
use Rattle.std.proofs.lemmas.List.{append-nil}
use Rattle.std.proofs.Common.{length-append}
use Rattle.fixed_point.specs.Decimal.{point_in, whole_at, decimals_at, fix_of_parts, fix_of, millionths, signed, is_negative, unsigned_of}
use Rattle.fixed_point.specs.Text.{point_text, size_text, number_text}
use Rattle.std.specs.Prelude.{decimal}
use Rattle.std.specs.List.{list_all}
use Rattle.std.proofs.lemmas.Str.Parse.{IsNumeralModel, numerals_by_fold}
use Rattle.std.proofs.lemmas.Fmt.{digits_decimal, digits_value-decimal, decimal_nonempty}
use Rattle.std.proofs.lemmas.Grind.{common_steps}
use Rattle.std.proofs.lemmas.Bool.{and_parts}
use Rattle.std.proofs.lemmas.Bool.Decides.{nat_tests}
use Rattle.fixed_point.specs.declared.limits.TheConstants.{MOST_DECIMALS, MOST_MILLIONTHS}
use Rattle.fixed_point.specs.Decimal.{value_from}
use Rattle.desk_io.specs.Characters.{is_digit}
use Rattle.fixed_point.specs.Text.{decimals_text}

abbrev Value : ℕ → ℕ → ℕ → Type 0
Value k m w = value_from w (decimals_text k m) * 10 ^ (k - length (decimals_text k m)) ≡ w * 10 ^ k + m

regroup : (w d p r : ℕ) → (10 * w + d) * p + r ≡ w * (10 * p) + (d * p + r)
regroup w d p r = omega arith

divided : (m p : ℕ) → 0 < p → (m / p) * p + m % p ≡ m
divided m p h = omega (arith, h)

value-nil : (k w : ℕ) → value_from w [] * 10 ^ (k - 0) ≡ w * 10 ^ k + 0
unfolding value_from
value-nil k w = let e : k - 0 ≡ k = omega arith in rw e (omega arith)

value-digit : (k w d : ℕ) (ds : List ℕ) → value_from w ((48 + d) ∷ ds) * 10 ^ (suc k - length ((48 + d) ∷ ds)) ≡ value_from (10 * w + d) ds * 10 ^ (k - length ds)
unfolding value_from
value-digit k w d ds =
    let e : 48 + d - 48 ≡ d = omega arith in
    let f : suc k - suc (length ds) ≡ k - length ds = omega arith in
    rw (e, f) refl

pub power : (k : ℕ) → 10 ^ suc k ≡ 10 * 10 ^ k
power k = grind (arith, common_steps)

pub positive : (k : ℕ) → 0 < 10 ^ k
positive zero = omega arith
positive (suc k) = rw (power k) (omega (arith, positive k))

is-zero : (m : ℕ) → (m == 0) ≡ true → m ≡ 0
is-zero m e = grind (arith, nat_tests)

decimals-step : (k m w : ℕ) → ((v : ℕ) → Value k (m % 10 ^ k) v) → (b : Bool) → (m == 0) ≡ b → Value (suc k) m w
unfolding decimals_text
decimals-step k m w rest true e = rw (e, is-zero m e) (value-nil (suc k) w)
decimals-step k m w rest false e = rw e (
    value-digit k w (m / 10 ^ k) (decimals_text k (m % 10 ^ k)) ∙ rest (10 * w + m / 10 ^ k) ∙ regroup w (m / 10 ^ k) (10 ^ k) (m % 10 ^ k)
    ∙ ap (λ p. w * p + (m / 10 ^ k * 10 ^ k + m % 10 ^ k)) (sym (power k)) ∙ ap (λ n. w * 10 ^ suc k + n) (divided m (10 ^ k) (positive k)))

decimals-zero : (m w : ℕ) → m < 10 ^ 0 → Value 0 m w
unfolding decimals_text
decimals-zero m w h = let e : m ≡ 0 = omega (arith, h) in rw e (value-nil 0 w)

-- The decimals that are written stand for what they were written of.
pub decimals-value : (k m w : ℕ) → m < 10 ^ k → Value k m w
decimals-value zero m w h = decimals-zero m w h
decimals-value (suc k) m w h = decimals-step k m w (λ v. decimals-value k (m % 10 ^ k) v (below m k)) (m == 0) refl where
  below : (m k : ℕ) → m % 10 ^ k < 10 ^ k
  below m k = omega (arith, positive k)

-- Digits and their value, as std's lemmas on decimal texts take them.
pub own : IsNumeralModel (λ ds. list_all is_digit ds ≡ true) (value_from 0)
unfolding value_from
own = numerals_by_fold _ (search rules) value_from (search rules)

-- The whole part that is written is digits, and they stand for it.
pub whole-written : (n : ℕ) → n < 2 ^ 64 → (list_all is_digit (decimal n) ≡ true) × (value_from 0 (decimal n) ≡ n)
whole-written n h = (digits_decimal own n h, digits_value-decimal own n h)

digit-point : (d : ℕ) → is_digit d ≡ true → (d == 46) ≡ false
digit-point d h = grind (arith, nat_tests)

digit-plus : (d : ℕ) → is_digit d ≡ true → (d == 43) ≡ false
digit-plus d h = grind (arith, nat_tests)

digit-minus : (d : ℕ) → is_digit d ≡ true → (d == 45) ≡ false
digit-minus d h = grind (arith, nat_tests)

no-point : (ds rest : List ℕ) → list_all is_digit ds ≡ true → position_or_len (λ b. b == 46) (ds ++ rest) ≡ length ds + position_or_len (λ b. b == 46) rest
no-point [] rest h = sym (zero-add _)
no-point (d ∷ ds) rest h = let p = and_parts (is_digit d) (list_all is_digit ds) h in
    simp (digit-point d p.0) (ap (λ n. 1 + n) (no-point ds rest p.1) ∙ omega arith)

point-none : (ds : List ℕ) → list_all is_digit ds ≡ true → point_in (ds ++ []) ≡ None
point-none ds h = rw (no-point ds [] h, append-nil ds) (none (length ds)) where
  none : (n : ℕ) → cond (nat_lt (n + 0) n) (Some (n + 0)) None ≡ None
  none n = let e : nat_lt (n + 0) n ≡ false = grind (arith, nat_tests) in rw e refl

point-some : (ds fs : List ℕ) → list_all is_digit ds ≡ true → point_in (ds ++ 46 ∷ fs) ≡ Some (length ds)
point-some ds fs h = rw (no-point ds (46 ∷ fs) h) (some (length ds) (length (ds ++ 46 ∷ fs)) (simp length-append (omega arith))) where
  some : (n m : ℕ) → n < m → cond (nat_lt (n + 0) m) (Some (n + 0)) None ≡ Some n
  some n m l = let e : nat_lt (n + 0) m ≡ true = grind (arith, nat_tests) in let z : n + 0 ≡ n = omega arith in rw (e, z) refl

whole-is : (ds fs : List ℕ) → take (length ds) (ds ++ 46 ∷ fs) ≡ ds
whole-is ds fs = grind (arith, common_steps)

decimals-are : (ds fs : List ℕ) → drop (length ds + 1) (ds ++ 46 ∷ fs) ≡ fs
decimals-are [] fs = refl
decimals-are (d ∷ ds) fs = let e : suc (length ds) + 1 ≡ suc (length ds + 1) = omega arith in rw e (decimals-are ds fs)

-- The text of two sides is read as the two sides.
split-again : (negative : Bool) (ds fs : List ℕ) → list_all is_digit ds ≡ true → let t = ds ++ point_text fs in
    fix_of_parts negative (whole_at (point_in t) t) (decimals_at (point_in t) t) ≡ fix_of_parts negative ds fs
split-again negative ds [] h = rw (point-none ds h, append-nil ds) refl
split-again negative ds (f ∷ fs) h = rw (point-some ds (f ∷ fs) h, whole-is ds (f ∷ fs), decimals-are ds (f ∷ fs)) refl

parts-again : (negative : Bool) (ds fs : List ℕ) (n : ℕ) → list_all is_digit ds ≡ true → list_all is_digit fs ≡ true → 0 < length ds → length fs ≤ MOST_DECIMALS → millionths ds fs ≡ n → n ≤ MOST_MILLIONTHS →
    fix_of_parts negative ds fs ≡ Ok (signed negative n)
parts-again negative ds fs n d f some short e small =
    let a : (length ds == 0) ≡ false = grind (arith, nat_tests) in
    let b : nat_lt MOST_DECIMALS (length fs) ≡ false = grind (arith, nat_tests) in
    let c : nat_lt (MOST_MILLIONTHS) n ≡ false = grind (arith, nat_tests) in
    simp (d, f, a, b, e, c)

decimals-step-digits : (k m : ℕ) → m < 10 ^ suc k → (list_all is_digit (decimals_text k (m % 10 ^ k)) ≡ true) × (length (decimals_text k (m % 10 ^ k)) ≤ k) → (b : Bool) → (m == 0) ≡ b →
    (list_all is_digit (decimals_text (suc k) m) ≡ true) × (length (decimals_text (suc k) m) ≤ suc k)
unfolding decimals_text
decimals-step-digits k m h rest true e = rw e (refl, omega arith)
decimals-step-digits k m h rest false e = rw e (rw (digit (m / 10 ^ k) (top m (10 ^ k) (positive k) (rw (← power k) h)), rest.0) refl, omega (arith, rest.1)) where
  digit : (d : ℕ) → d < 10 → is_digit (48 + d) ≡ true
  digit d l = grind (arith, nat_tests)

  top : (m p : ℕ) → 0 < p → m < 10 * p → m / p < 10
  top m p l h = grind arith

decimals-digits : (k m : ℕ) → m < 10 ^ k → (list_all is_digit (decimals_text k m) ≡ true) × (length (decimals_text k m) ≤ k)
unfolding decimals_text
decimals-digits zero m h = (refl, omega arith)
decimals-digits (suc k) m h = decimals-step-digits k m h (decimals-digits k (m % 10 ^ k) (below m k)) (m == 0) refl where
  below : (m k : ℕ) → m % 10 ^ k < 10 ^ k
  below m k = omega (arith, positive k)

no-sign : (ds rest : List ℕ) → 0 < length ds → list_all is_digit ds ≡ true → (is_negative (ds ++ rest) ≡ false) × (unsigned_of (ds ++ rest) ≡ ds ++ rest)
no-sign [] rest h d = absurd (omega (arith, h))
no-sign (d ∷ ds) rest h e = let p = and_parts (is_digit d) (list_all is_digit ds) e in
    (digit-minus d p.0, simp (digit-plus d p.0, digit-minus d p.0))

size-again : (negative : Bool) (n : ℕ) → n ≤ MOST_MILLIONTHS → let t = size_text MOST_DECIMALS n in fix_of_parts negative (whole_at (point_in t) t) (decimals_at (point_in t) t) ≡ Ok (signed negative n)
unfolding size_text
size-again negative n h =
    let w = whole-written (n / 10 ^ MOST_DECIMALS) (omega arith) in
    let f = decimals-digits MOST_DECIMALS (n % 10 ^ MOST_DECIMALS) (omega arith) in
    let v = decimals-value MOST_DECIMALS (n % 10 ^ MOST_DECIMALS) (n / 10 ^ MOST_DECIMALS) (omega arith) in
    let e : millionths (decimal (n / 10 ^ MOST_DECIMALS)) (decimals_text MOST_DECIMALS (n % 10 ^ MOST_DECIMALS)) ≡ n = rw w.1 (v ∙ divided n (10 ^ MOST_DECIMALS) (omega arith)) in
    split-again negative (decimal (n / 10 ^ MOST_DECIMALS)) (decimals_text MOST_DECIMALS (n % 10 ^ MOST_DECIMALS)) w.0
    ∙ parts-again negative (decimal (n / 10 ^ MOST_DECIMALS)) (decimals_text MOST_DECIMALS (n % 10 ^ MOST_DECIMALS)) n w.0 f.0 (decimal_nonempty (n / 10 ^ MOST_DECIMALS) (omega arith)) f.1 e h

-- What is written is read as the same value.
pub again : (z : ℤ) → unsigned_abs z ≤ MOST_MILLIONTHS → fix_of (number_text MOST_DECIMALS z) ≡ Ok z
unfolding size_text number_text
again (pos n) h =
    let w = whole-written (n / 10 ^ MOST_DECIMALS) (omega arith) in
    let s = no-sign (decimal (n / 10 ^ MOST_DECIMALS)) (point_text (decimals_text MOST_DECIMALS (n % 10 ^ MOST_DECIMALS))) (decimal_nonempty (n / 10 ^ MOST_DECIMALS) (omega arith)) w.0 in
    rw (s.0, s.1) (size-again false n h)
again (negsuc n) h = size-again true (suc n) h

-- Numbers as they are read, and as they are written.
use Rattle.std.proofs.Common.{◌≡◌, ◌≢◌, ℕ, ◌+◌, ◌-◌, ◌*◌, ◌^◌, ◌/◌, ◌%◌, ◌<◌, ◌≤◌, zero, suc, List, [], ◌∷◌, ◌++◌, length, get_or, min, Bool, true, false, ◌&&◌, not, ◌==◌, nat_le, cond, refl, sym, ◌∙◌, ap, subst, arith, rules, Option, Some, None, append_assoc, append-nil}
use Rattle.std.specs.List.{list_all}
use Rattle.std.specs.Prelude.{decimal}
use Rattle.std.proofs.lemmas.Fmt.{decimal_is_IsNumeral_wide, decimal_digit, decimal_step_wide, decimal_by_steps_wide}
use Rattle.std.proofs.lemmas.Str.Parse.{IsNumeralModel, numerals_by_fold}
use Rattle.std.proofs.lemmas.Bool.Decides.{nat_tests}
use Rattle.std.proofs.lemmas.Bool.{and_parts, not-true}
use Rattle.desk_io.specs.Characters.{is_digit}
use Rattle.poly_text.specs.Reading.{number_from, begins_number, number_at}

-- ---- a number that is cut at the greatest of its type
abbrev pub cap : ℕ
cap = 2 ^ 128 - 1

-- what is left of a text tells the number and the rest of the whole
pub record Capped (n : ℕ) (left text : List ℕ) : Type 0 where
  pub within : n ≤ cap
  pub size : min (number_from n left).0 cap ≡ min (number_from 0 text).0 cap
  pub rest : (number_from n left).1 ≡ (number_from 0 text).1

pub number_from-digit : (n b : ℕ) (text : List ℕ) → is_digit b ≡ true → number_from n (b ∷ text) ≡ number_from (10 * n + (b - 48)) text
number_from-digit n b text d = ap (λ t. cond t (number_from (10 * n + (b - 48)) text) (n, b ∷ text)) d

pub number_from-other : (n b : ℕ) (text : List ℕ) → is_digit b ≡ false → number_from n (b ∷ text) ≡ (n, b ∷ text)
number_from-other n b text d = ap (λ t. cond t (number_from (10 * n + (b - 48)) text) (n, b ∷ text)) d

pub same_rest : (m n : ℕ) (text : List ℕ) → (number_from m text).1 ≡ (number_from n text).1
same_rest m n [] = refl
same_rest m n (b ∷ text) =
    elim (is_digit b) as (λ t. (cond t (number_from (10 * m + (b - 48)) text) (m, b ∷ text)).1 ≡ (cond t (number_from (10 * n + (b - 48)) text) (n, b ∷ text)).1) [
      | true ↦ same_rest (10 * m + (b - 48)) (10 * n + (b - 48)) text
      | false ↦ refl
    ]

pub cut_later : (c n : ℕ) (text : List ℕ) → min (number_from (min n c) text).0 c ≡ min (number_from n text).0 c
cut_later c n [] = let e : min (min n c) c ≡ min n c = omega arith in e
cut_later c n (b ∷ text) =
    elim (is_digit b) as (λ t. min (cond t (number_from (10 * min n c + (b - 48)) text) (min n c, b ∷ text)).0 c ≡ min (cond t (number_from (10 * n + (b - 48)) text) (n, b ∷ text)).0 c) [
      | true ↦ sym (cut_later c (10 * min n c + (b - 48)) text) ∙ ap (λ m. min (number_from m text).0 c) (cut_digit c n (b - 48)) ∙ cut_later c (10 * n + (b - 48)) text
      | false ↦ (let e : min (min n c) c ≡ min n c = omega arith in e)
    ]
  where
    cut_digit : (c n k : ℕ) → min (10 * min n c + k) c ≡ min (10 * n + k) c
    cut_digit c n k = omega arith

pub one_more : (n b m : ℕ) (left text : List ℕ) → Capped n (b ∷ left) text → is_digit b ≡ true → m ≡ min (10 * n + (b - 48)) cap → Capped m left text
one_more n b m left text h d e = record {
  within = omega (arith, e);
  size = ap (λ k. min (number_from k left).0 cap) e ∙ cut_later cap (10 * n + (b - 48)) left ∙ ap (λ read. min read.0 cap) (sym (number_from-digit n b left d)) ∙ h.size;
  rest = same_rest m (10 * n + (b - 48)) left ∙ ap (λ (read : ℕ × List ℕ). read.1) (sym (number_from-digit n b left d)) ∙ h.rest;
}

-- ---- a number that is read is spelled as it is written
grows : (n : ℕ) (text : List ℕ) → n ≤ (number_from n text).0
grows n [] = omega arith
grows n (b ∷ text) =
    elim (is_digit b) as (λ t. n ≤ (cond t (number_from (10 * n + (b - 48)) text) (n, b ∷ text)).0) [
      | true ↦ (let h = grows (10 * n + (b - 48)) text in omega (arith, h))
      | false ↦ omega arith
    ]

-- a number that has passed the most is refused
pub too_large : (most n : ℕ) (left text : List ℕ) → most < n → number_from 0 text ≡ number_from n left → number_at most text ≡ None
too_large most n left text past same =
    let e = ap (λ (read : ℕ × List ℕ). read.0) same in
    let g = grows n left in
    let large : most < (number_from 0 text).0 = omega (arith, e, g, past) in
    let no : nat_le (number_from 0 text).0 most ≡ false = grind (arith, nat_tests) in
    ap (λ t. cond (begins_number text && t) (Some (number_from 0 text)) None) no ∙ neither (begins_number text)
  where
    neither : (b : Bool) → cond (b && false) (Some (number_from 0 text)) None ≡ None
    neither true = refl
    neither false = refl

digit-range : (b : ℕ) → is_digit b ≡ true → (48 ≤ b) × (b ≤ 57)
digit-range b d = (grind (arith, nat_tests), grind (arith, nat_tests))

pub one_digit : (b : ℕ) → is_digit b ≡ true → decimal (b - 48) ≡ b ∷ []
one_digit b d =
    let r = digit-range b d in
    let e : 48 + (b - 48) ≡ b = omega (arith, r.0) in
    decimal_digit (b - 48) (omega (arith, r.0, r.1)) ∙ ap (λ x. x ∷ []) e

next_digit : (n b : ℕ) → 0 < n → is_digit b ≡ true → 10 * n + (b - 48) < 10 ^ 64 → decimal (10 * n + (b - 48)) ≡ decimal n ++ b ∷ []
next_digit n b some d small =
    let r = digit-range b d in
    let m = 10 * n + (b - 48) in
    let q : m / 10 ≡ n = omega (arith, r.0, r.1) in
    let e : 48 + m % 10 ≡ b = omega (arith, r.0, r.1) in
    decimal_step_wide m (omega (arith, some)) small ∙ (λ i. decimal (q i) ++ e i ∷ [])

pub spelled : (n : ℕ) (text : List ℕ) → 0 < n → (number_from n text).0 < 10 ^ 64 → decimal n ++ text ≡ decimal (number_from n text).0 ++ (number_from n text).1
spelled n [] some small = refl
spelled n (b ∷ text) some small =
    elim (is_digit b) as (λ t. is_digit b ≡ t → (cond t (number_from (10 * n + (b - 48)) text) (n, b ∷ text)).0 < 10 ^ 64
    → decimal n ++ b ∷ text ≡ decimal (cond t (number_from (10 * n + (b - 48)) text) (n, b ∷ text)).0 ++ (cond t (number_from (10 * n + (b - 48)) text) (n, b ∷ text)).1) [
      | true ↦ λ d small.
          let g = grows (10 * n + (b - 48)) text in
          sym (append_assoc (decimal n) (b ∷ []) text)
          ∙ ap (λ l. l ++ text) (sym (next_digit n b some d (omega (arith, g, small))))
          ∙ spelled (10 * n + (b - 48)) text (omega (arith, some)) small
      | false ↦ λ d small. refl
    ] refl small

pub given : {A : Type 0} (b : Bool) (x y : A) → ◌≡◌ {A = Option A} (cond b (Some x) None) (Some y) → (b ≡ true) × (x ≡ y)
given true x y e = (refl, cc)
given false x y e = cc

first_digit : (b : ℕ) (text : List ℕ) → is_digit b ≡ true → number_from 0 (b ∷ text) ≡ number_from (b - 48) text
first_digit b text d = number_from-digit 0 b text d ∙ ap (λ m. number_from m text) (let e : 10 * 0 + (b - 48) ≡ b - 48 = omega arith in e)

zero_text : decimal 0 ≡ 48 ∷ []
zero_text = decimal_digit 0 (omega arith)

Spells : List ℕ → ℕ × List ℕ → Type 0
Spells text read = text ≡ decimal read.0 ++ read.1

spelled_first : (b : ℕ) (text : List ℕ) → is_digit b ≡ true → 48 < b → (number_from 0 (b ∷ text)).0 < 10 ^ 64 → Spells (b ∷ text) (number_from 0 (b ∷ text))
unfolding Spells
spelled_first b text d large small =
    let e = first_digit b text d in
    ap (λ l. l ++ text) (sym (one_digit b d))
    ∙ spelled (b - 48) text (omega (arith, large)) (rw e at small)
    ∙ (λ i. decimal (sym e i).0 ++ (sym e i).1)

spelled_zero : (b : ℕ) (text : List ℕ) → b ≡ 48 → number_from 0 text ≡ (0, text) → Spells (b ∷ text) (number_from 0 (b ∷ text))
unfolding Spells
spelled_zero b text e none =
    let at_zero : number_from 0 (48 ∷ text) ≡ (0, text) = none in
    subst (λ x. x ∷ text ≡ decimal (number_from 0 (x ∷ text)).0 ++ (number_from 0 (x ∷ text)).1) (sym e)
    (ap (λ l. l ++ text) (sym zero_text) ∙ (λ i. decimal (sym at_zero i).0 ++ (sym at_zero i).1))

spelled_number : (text : List ℕ) → begins_number text ≡ true → (number_from 0 text).0 < 10 ^ 64 → Spells text (number_from 0 text)
spelled_number [] begins small = cc
spelled_number (b ∷ []) begins small =
    elim (b == 48) as (λ t. (b == 48) ≡ t → Spells (b ∷ []) (number_from 0 (b ∷ []))) [
      | true ↦ λ e. spelled_zero b [] (grind (arith, nat_tests)) refl
      | false ↦ λ e. spelled_first b [] begins (let r = digit-range b begins in let n : b ≢ 48 = grind (arith, nat_tests) in omega (arith, r.0, n)) small
    ] refl
spelled_number (b ∷ c ∷ text) begins small =
    let p = and_parts (is_digit b) (not (b == 48 && is_digit c)) begins in
    elim (b == 48) as (λ t. (b == 48) ≡ t → not (t && is_digit c) ≡ true → Spells (b ∷ c ∷ text) (number_from 0 (b ∷ c ∷ text))) [
      | true ↦ λ e n. spelled_zero b (c ∷ text) (grind (arith, nat_tests)) (number_from-other 0 c text (not-true (is_digit c) n))
      | false ↦ λ e n. spelled_first b (c ∷ text) p.0 (let r = digit-range b p.0 in let m : b ≢ 48 = grind (arith, nat_tests) in omega (arith, r.0, m)) small
    ] refl p.1

pub number_at-sound : (most : ℕ) (text : List ℕ) (n : ℕ) (rest : List ℕ) → most < 10 ^ 64 → number_at most text ≡ Some (n, rest) → (text ≡ decimal n ++ rest) × (n ≤ most)
unfolding Spells
number_at-sound most text n rest bound e =
    let g = given (begins_number text && nat_le (number_from 0 text).0 most) (number_from 0 text) (n, rest) e in
    let p = and_parts (begins_number text) (nat_le (number_from 0 text).0 most) g.0 in
    let within : (number_from 0 text).0 ≤ most = grind (arith, nat_tests, p.1) in (
      spelled_number text p.0 (omega (arith, within, bound)) ∙ (λ i. decimal (g.1 i).0 ++ (g.1 i).1),
      subst (λ k. k ≤ most) (ap (λ (read : ℕ × List ℕ). read.0) g.1) within,
    )

-- ---- a number that is written is read again
unfoldable pub value_from : ℕ → List ℕ → ℕ
value_from n [] = n
value_from n (b ∷ bs) = value_from (10 * n + (b - 48)) bs

pub own : IsNumeralModel (λ ds. list_all is_digit ds ≡ true) (value_from 0)
unfolding value_from
own = numerals_by_fold _ (search rules) value_from (search rules)

unfoldable pub begins_digit : List ℕ → Bool
begins_digit [] = false
begins_digit (b ∷ text) = is_digit b

stops : (n : ℕ) (rest : List ℕ) → begins_digit rest ≡ false → number_from n rest ≡ (n, rest)
unfolding begins_digit
stops n [] e = refl
stops n (b ∷ rest) e = number_from-other n b rest e

over_digits : (n : ℕ) (ds rest : List ℕ) → list_all is_digit ds ≡ true → begins_digit rest ≡ false → number_from n (ds ++ rest) ≡ (value_from n ds, rest)
unfolding value_from
over_digits n [] rest d e = stops n rest e
over_digits n (b ∷ ds) rest d e =
    let p = and_parts (is_digit b) (list_all is_digit ds) d in
    number_from-digit n b (ds ++ rest) p.0 ∙ over_digits (10 * n + (b - 48)) ds rest p.1 e

pub no_leading_zero : (n : ℕ) → n < 10 ^ 64 → 0 < n → 48 < get_or (decimal n) 0 0
no_leading_zero = decimal_by_steps_wide (λ n ds. 0 < n → 48 < get_or ds 0 0) (λ n h some. omega (arith, some)) more
  where
    more : (n : ℕ) (ds : List ℕ) → 10 ≤ n → (0 < n / 10 → 48 < get_or ds 0 0) → 0 < n → 48 < get_or (ds ++ (48 + n % 10) ∷ []) 0 0
    more n [] large p some = absurd (let h = p (omega (arith, large)) in omega (arith, h))
    more n (d ∷ ds) large p some = p (omega (arith, large))

begins_some : (ds rest : List ℕ) → list_all is_digit ds ≡ true → 48 < get_or ds 0 0 → begins_number (ds ++ rest) ≡ true
begins_some [] rest d large = absurd (omega (arith, large))
begins_some (b ∷ []) [] d large = (and_parts (is_digit b) true d).0
begins_some (b ∷ []) (c ∷ rest) d large = begins b c (and_parts (is_digit b) true d).0 large
  where
    begins : (b c : ℕ) → is_digit b ≡ true → 48 < b → (is_digit b && not (b == 48 && is_digit c)) ≡ true
    begins b c d large = let e : (b == 48) ≡ false = grind (arith, nat_tests) in rw (d, e) refl
begins_some (b ∷ c ∷ ds) rest d large = begins b c (and_parts (is_digit b) (list_all is_digit (c ∷ ds)) d).0 large
  where
    begins : (b c : ℕ) → is_digit b ≡ true → 48 < b → (is_digit b && not (b == 48 && is_digit c)) ≡ true
    begins b c d large = let e : (b == 48) ≡ false = grind (arith, nat_tests) in rw (d, e) refl

begins_written : (n : ℕ) (rest : List ℕ) → n < 10 ^ 64 → begins_digit rest ≡ false → begins_number (decimal n ++ rest) ≡ true
unfolding begins_digit
begins_written zero [] small e = ap (λ l. begins_number (l ++ [])) zero_text
begins_written zero (c ∷ rest) small e = ap (λ l. begins_number (l ++ c ∷ rest)) zero_text ∙ ap not e
begins_written (suc n) rest small e =
    begins_some (decimal (suc n)) rest (own.from _ (decimal_is_IsNumeral_wide (suc n) small).0.1) (no_leading_zero (suc n) small (omega arith))

pub number_at-complete : (most n : ℕ) (rest : List ℕ) → n ≤ most → most < 10 ^ 64 → begins_digit rest ≡ false → number_at most (decimal n ++ rest) ≡ Some (n, rest)
number_at-complete most n rest within bound e =
    let small : n < 10 ^ 64 = omega (arith, within, bound) in
    let numeral = decimal_is_IsNumeral_wide n small in
    let read : number_from 0 (decimal n ++ rest) ≡ (n, rest) =
    over_digits 0 (decimal n) rest (own.from _ numeral.0.1) e ∙ (λ i. ((own.same (decimal n) numeral.0.1 ∙ numeral.1) i, rest))
    in
    let begins = begins_written n rest small e in
    let fits : nat_le n most ≡ true = grind (arith, nat_tests) in
    ap (λ t. cond (t && nat_le (number_from 0 (decimal n ++ rest)).0 most) (Some (number_from 0 (decimal n ++ rest))) None) begins
    ∙ ap (λ (r : ℕ × List ℕ). cond (nat_le r.0 most) (Some r) None) read
    ∙ ap (λ t. cond t (Some (n, rest)) None) fits

begun : (ds : List ℕ) → begins_number ds ≡ true → (0 < length ds) × (begins_digit ds ≡ true)
unfolding begins_digit
begun [] e = cc
begun (b ∷ []) e = (omega arith, e)
begun (b ∷ c ∷ ds) e = (omega arith, (and_parts (is_digit b) (not (b == 48 && is_digit c)) e).0)

begins_none : begins_digit [] ≡ false
unfolding begins_digit
begins_none = refl

-- a number that is written begins with a digit
pub digits_written : (n : ℕ) → n < 10 ^ 64 → (0 < length (decimal n)) × (begins_digit (decimal n) ≡ true)
digits_written n small = begun (decimal n) (ap begins_number (sym (append-nil (decimal n))) ∙ begins_written n [] small begins_none)

-- Terms with their signs, as they are read and as they are written.
use Rattle.std.proofs.Common.{◌≡◌, ℕ, ◌-◌, ◌<◌, ◌≤◌, zero, suc, List, [], ◌∷◌, ◌++◌, length, Bool, true, false, ◌&&◌, not, ◌==◌, nat_lt, nat_le, cond, refl, sym, ◌∙◌, ap, subst, arith, Option, Some, None, append_assoc}
use Rattle.std.specs.List.{list_any}
use Rattle.std.specs.Prelude.{ℤ, pos, negsuc, unsigned_abs, decimal}
use Rattle.std.proofs.lemmas.Bool.Decides.{nat_tests}
use Rattle.std.proofs.lemmas.Bool.{and_parts}
use Rattle.poly_model.specs.Polynomial.{Entry}
use Rattle.poly_model.specs.Content.{is_negative, signed_by}
use Rattle.poly_model.specs.declared.vars.VarName.{VarName}
use Rattle.poly_model.specs.declared.vars.VarName.TheVariants.{U, X}
use Rattle.poly_model.specs.declared.limits.TheConstants.{MOST_VARIABLES, MOST_SIZE}
use Rattle.poly_text.specs.Text.{is_left_out, factors_text, term_text, sign_text, entry_text}
use Rattle.desk_io.specs.Characters.{is_digit}
use Rattle.poly_text.specs.Reading.{number_from, number_at, Size, size_or_one, size_at, factors_at, is_spelled, entry_of_parts, term_at, sign_at, term_behind, entry_at}
use Rattle.poly_text.proofs.Numbers.{begins_digit, number_at-complete, number_at-sound, given, digits_written}
use Rattle.poly_text.proofs.Factors.{ends, goes_on, Named, FitExponents, factors-follow, factors-complete, factors-sound}

-- the spare exponents
abbrev pub spare : List VarName → ℕ
spare names = MOST_VARIABLES - length names

-- an entry that a text may have: its size and its exponents
pub record Fits (names : List VarName) (entry : Entry) : Type 0 where
  pub some : 0 < unsigned_abs entry.1
  pub within : unsigned_abs entry.1 ≤ MOST_SIZE
  pub exponents : FitExponents (spare names) names entry.0

-- ---- a sign and a size
abs-signed : (negative : Bool) (n : ℕ) → unsigned_abs (signed_by negative (pos n)) ≡ n
abs-signed false n = refl
abs-signed true zero = refl
abs-signed true (suc n) = refl

negative-signed : (negative : Bool) (n : ℕ) → 0 < n → is_negative (signed_by negative (pos n)) ≡ negative
negative-signed false n some = refl
negative-signed true zero some = absurd (omega (arith, some))
negative-signed true (suc n) some = refl

signed-parts : (c : ℤ) → signed_by (is_negative c) (pos (unsigned_abs c)) ≡ c
signed-parts (pos n) = refl
signed-parts (negsuc n) = refl

-- ---- the size
-- factors that come first begin with a letter, and no blank is a digit
first_letter : (names : List VarName) (es rest : List ℕ) → ends rest ≡ true → begins_digit (factors_text false names es ++ rest) ≡ false
unfolding begins_digit ends
first_letter [] es [] e = refl
first_letter [] es (b ∷ rest) e = (let q : is_digit b ≡ false = grind (arith, nat_tests) in q)
first_letter (name ∷ names) [] [] e = refl
first_letter (name ∷ names) [] (b ∷ rest) e = (let q : is_digit b ≡ false = grind (arith, nat_tests) in q)
first_letter (name ∷ names) (zero ∷ es) rest e = first_letter names es rest e
first_letter (U n ∷ names) (suc k ∷ es) rest e = refl
first_letter (X n ∷ names) (suc k ∷ es) rest e = refl

no_number : (most : ℕ) (text : List ℕ) → begins_digit text ≡ false → number_at most text ≡ None
unfolding begins_digit
no_number most [] e = refl
no_number most (b ∷ []) e = ap (λ t. cond (t && nat_le (number_from 0 (b ∷ [])).0 most) (Some (number_from 0 (b ∷ []))) None) e
no_number most (b ∷ c ∷ text) e =
    ap (λ t. cond ((t && not (b == 48 && is_digit c)) && nat_le (number_from 0 (b ∷ c ∷ text)).0 most) (Some (number_from 0 (b ∷ c ∷ text))) None) e

-- ---- a term that was written is read again
term-complete : (names : List VarName) (negative : Bool) (es : List ℕ) (n : ℕ) (rest : List ℕ) → 0 < n → n ≤ MOST_SIZE → FitExponents (spare names) names es → Named names → ends rest ≡ true
    → term_at names negative (term_text names es n ++ rest) ≡ Some ((es, signed_by negative (pos n)), rest)
term-complete names negative es n rest some within fit named e =
    elim (is_left_out n es) as (λ t. is_left_out n es ≡ t → term_at names negative (cond t (factors_text false names es) (decimal n ++ factors_text true names es) ++ rest) ≡ Some ((es, signed_by negative (pos n)), rest)) [
      | true ↦ λ left_out.
          let text = factors_text false names es ++ rest in
          let one : n ≡ 1 = is_one n (left_out_one n es left_out) in
          let size : size_at text ≡ record { written = false; size = 1; rest = text } = ap (size_or_one text) (no_number MOST_SIZE text (first_letter names es rest e)) in
          ap (λ (s : Size). entry_of_parts negative s (factors_at (spare names) s.written names s.rest)) size
          ∙ ap (λ f. entry_of_parts negative (record { written = false; size = 1; rest = text }) f) (factors-complete (spare names) false names es rest fit named e)
          ∙ ap (λ t. cond t (Some ((es, signed_by negative (pos 1)), rest)) None) (ap (λ k. is_left_out k es) (sym one) ∙ left_out)
          ∙ ap (λ k. Some ((es, signed_by negative (pos k)), rest)) (sym one)
      | false ↦ λ left_out.
          let behind = factors_text true names es ++ rest in
          let text = (decimal n ++ factors_text true names es) ++ rest in
          let number : number_at MOST_SIZE text ≡ Some (n, behind) =
          ap (number_at MOST_SIZE) (append_assoc (decimal n) (factors_text true names es) rest)
          ∙ number_at-complete MOST_SIZE n behind within (omega arith) (goes_on behind (factors-follow names es rest e)).0
          in
          let size : size_at text ≡ record { written = true; size = n; rest = behind } = ap (size_or_one text) number in
          let positive : nat_lt 0 n ≡ true = grind (arith, nat_tests) in
          ap (λ (s : Size). entry_of_parts negative s (factors_at (spare names) s.written names s.rest)) size
          ∙ ap (λ f. entry_of_parts negative (record { written = true; size = n; rest = behind }) f) (factors-complete (spare names) true names es rest fit named e)
          ∙ ap (λ t. cond (t && not (is_left_out n es)) (Some ((es, signed_by negative (pos n)), rest)) None) positive
          ∙ ap (λ t. cond (not t) (Some ((es, signed_by negative (pos n)), rest)) None) left_out
    ] refl
  where
    left_out_one : (n : ℕ) (es : List ℕ) → is_left_out n es ≡ true → (n == 1) ≡ true
    left_out_one n es e = (and_parts (n == 1) (list_any (λ k. nat_lt 0 k) es) e).0

    is_one : (n : ℕ) → (n == 1) ≡ true → n ≡ 1
    is_one n q = grind (arith, nat_tests)

-- ---- a term that is read is spelled as it is written
pub record TermSpells (names : List VarName) (negative : Bool) (text : List ℕ) (entry : Entry) (rest : List ℕ) : Type 0 where
  pub signs : is_negative entry.1 ≡ negative
  pub spells : text ≡ term_text names entry.0 (unsigned_abs entry.1) ++ rest
  pub fits : Fits names entry

-- the text of a size that is spelled as it should be
pub record SizeSpells (text : List ℕ) (size : Size) : Type 0 where
  pub spells : text ≡ cond size.written (decimal size.size) [] ++ size.rest
  pub one : size.written ≡ false → size.size ≡ 1
  pub within : size.size ≤ MOST_SIZE

size-sound : (text : List ℕ) → SizeSpells text (size_at text)
size-sound text =
    elim (number_at MOST_SIZE text) as (λ r. number_at MOST_SIZE text ≡ r → SizeSpells text (size_or_one text r)) [
      | None ↦ λ is. record { spells = refl; one = λ w. refl; within = omega arith }
      | Some read ↦ λ is.
          let s = number_at-sound MOST_SIZE text read.0 read.1 (omega arith) is in
          record { spells = s.0; one = λ w. absurd (let h : true ≡ false = w in cc); within = s.1 }
    ] refl

term_text-written : (names : List VarName) (es : List ℕ) (size : Size) → (size.written ≡ false → size.size ≡ 1) → is_spelled size es ≡ true
    → term_text names es size.size ≡ cond size.written (decimal size.size) [] ++ factors_text size.written names es
term_text-written names es size one spelled =
    elim (is_left_out size.size es) as (λ t. (b : Bool) → cond b (not t) t ≡ true → cond t (factors_text false names es) (decimal size.size ++ factors_text true names es) ≡ cond b (decimal size.size) [] ++ factors_text b names es) [
      | true ↦ λ b. elim b as (λ b. cond b false true ≡ true → factors_text false names es ≡ cond b (decimal size.size) [] ++ factors_text b names es) [ true ↦ λ h. absurd (let g : false ≡ true = h in cc) | false ↦ λ h. refl ]
      | false ↦ λ b. elim b as (λ b. cond b true false ≡ true → decimal size.size ++ factors_text true names es ≡ cond b (decimal size.size) [] ++ factors_text b names es) [ true ↦ λ h. refl | false ↦ λ h. absurd (let g : false ≡ true = h in cc) ]
    ] size.written spelled

parts-sound : (names : List VarName) (negative : Bool) (text : List ℕ) (size : Size) (entry : Entry) (rest : List ℕ) → SizeSpells text size
    → entry_of_parts negative size (factors_at (spare names) size.written names size.rest) ≡ Some (entry, rest) → TermSpells names negative text entry rest
parts-sound names negative text size entry rest s is =
    let F = factors_at (spare names) size.written names size.rest in
    let g = given (nat_lt 0 size.size && is_spelled size F.0) ((F.0, signed_by negative (pos size.size)), F.1) (entry, rest) is in
    let p = and_parts (nat_lt 0 size.size) (is_spelled size F.0) g.0 in
    let f = factors-sound (spare names) size.written names size.rest in
    let some : 0 < size.size = grind (arith, nat_tests, p.0) in
    let abs : unsigned_abs (signed_by negative (pos size.size)) ≡ size.size = abs-signed negative size.size in
    subst (λ (r : Entry × List ℕ). TermSpells names negative text r.0 r.1) g.1
    (
    record {
      signs = negative-signed negative size.size some;
      spells = s.spells
          ∙ ap (λ l. cond size.written (decimal size.size) [] ++ l) f.spells
          ∙ sym (append_assoc (cond size.written (decimal size.size) []) (factors_text size.written names F.0) F.1)
          ∙ ap (λ l. l ++ F.1) (sym (term_text-written names F.0 size s.one p.1))
          ∙ ap (λ n. term_text names F.0 n ++ F.1) (sym abs);
      fits = record {
        some = subst (λ n. 0 < n) (sym abs) some;
        within = subst (λ n. n ≤ MOST_SIZE) (sym abs) s.within;
        exponents = f.fit;
      };
    }
    )

term-sound : (names : List VarName) (negative : Bool) (text : List ℕ) (entry : Entry) (rest : List ℕ) → term_at names negative text ≡ Some (entry, rest) → TermSpells names negative text entry rest
term-sound names negative text entry rest is = parts-sound names negative text (size_at text) entry rest (size-sound text) is

-- ---- signs
unfoldable pub begins_minus : List ℕ → Bool
begins_minus [] = false
begins_minus (b ∷ text) = b == 45

first_minus : (names : List VarName) (es rest : List ℕ) → ends rest ≡ true → begins_minus (factors_text false names es ++ rest) ≡ false
unfolding begins_minus ends
first_minus [] es [] e = refl
first_minus [] es (b ∷ rest) e = (let q : (b == 45) ≡ false = grind (arith, nat_tests) in q)
first_minus (name ∷ names) [] [] e = refl
first_minus (name ∷ names) [] (b ∷ rest) e = (let q : (b == 45) ≡ false = grind (arith, nat_tests) in q)
first_minus (name ∷ names) (zero ∷ es) rest e = first_minus names es rest e
first_minus (U n ∷ names) (suc k ∷ es) rest e = refl
first_minus (X n ∷ names) (suc k ∷ es) rest e = refl

digits_minus : (ds text : List ℕ) → 0 < length ds → begins_digit ds ≡ true → begins_minus (ds ++ text) ≡ false
unfolding begins_minus begins_digit
digits_minus [] text some d = cc
digits_minus (b ∷ ds) text some d = (let q : (b == 45) ≡ false = grind (arith, nat_tests) in q)

no_minus : (names : List VarName) (es : List ℕ) (n : ℕ) (rest : List ℕ) → n ≤ MOST_SIZE → ends rest ≡ true → begins_minus (term_text names es n ++ rest) ≡ false
no_minus names es n rest within e =
    elim (is_left_out n es) as (λ t. begins_minus (cond t (factors_text false names es) (decimal n ++ factors_text true names es) ++ rest) ≡ false) [
      | true ↦ first_minus names es rest e
      | false ↦
          ap begins_minus (append_assoc (decimal n) (factors_text true names es) rest)
          ∙ (let d = digits_written n (omega (arith, within)) in digits_minus (decimal n) (factors_text true names es ++ rest) d.0 d.1)
    ]

sign-complete : (first negative : Bool) (text : List ℕ) → begins_minus text ≡ false → sign_at first (sign_text first negative ++ text) ≡ Some (negative, text)
unfolding begins_minus
sign-complete true true text m = refl
sign-complete true false [] m = refl
sign-complete true false (b ∷ text) m = ap (λ t. cond t (Some (true, text)) (Some (false, b ∷ text))) m
sign-complete false true text m = refl
sign-complete false false text m = refl

abbrev choose : Bool → Option (Bool × List ℕ) → Option (Bool × List ℕ) → Option (Bool × List ℕ)
choose = cond

sign-sound : (first : Bool) (text : List ℕ) (negative : Bool) (rest : List ℕ) → sign_at first text ≡ Some (negative, rest) → text ≡ sign_text first negative ++ rest
sign-sound true [] negative rest is =
    let q : ◌≡◌ {A = Bool × List ℕ} (false, []) (negative, rest) = cc in λ i. sign_text true (q i).0 ++ (q i).1
sign-sound true (b ∷ text) negative rest is =
    elim (b == 45) as (λ t. (b == 45) ≡ t → choose t (Some (true, text)) (Some (false, b ∷ text)) ≡ Some (negative, rest) → b ∷ text ≡ sign_text true negative ++ rest) [
      | true ↦ λ m is.
          let q : ◌≡◌ {A = Bool × List ℕ} (true, text) (negative, rest) = cc in
          (λ i. (let k : b ≡ 45 = grind (arith, nat_tests) in k) i ∷ text) ∙ (λ i. sign_text true (q i).0 ++ (q i).1)
      | false ↦ λ m is. let q : ◌≡◌ {A = Bool × List ℕ} (false, b ∷ text) (negative, rest) = cc in λ i. sign_text true (q i).0 ++ (q i).1
    ] refl is
sign-sound false [] negative rest is = cc
sign-sound false (a ∷ []) negative rest is = cc
sign-sound false (a ∷ b ∷ []) negative rest is = cc
sign-sound false (a ∷ b ∷ c ∷ text) negative rest given_text =
    elim (a == 32 && c == 32) as (λ t. (a == 32 && c == 32) ≡ t → choose t (choose (b == 45) (Some (true, text)) (choose (b == 43) (Some (false, text)) None)) None ≡ Some (negative, rest) → a ∷ b ∷ c ∷ text ≡ sign_text false negative ++ rest) [
      | false ↦ λ blanks is. cc
      | true ↦ λ blanks.
          let p = and_parts (a == 32) (c == 32) blanks in
          let left : a ≡ 32 = grind (arith, nat_tests, p.0) in
          let right : c ≡ 32 = grind (arith, nat_tests, p.1) in
          elim (b == 45) as (λ t. (b == 45) ≡ t → choose t (Some (true, text)) (choose (b == 43) (Some (false, text)) None) ≡ Some (negative, rest) → a ∷ b ∷ c ∷ text ≡ sign_text false negative ++ rest) [
            | true ↦ λ minus is.
                let q : ◌≡◌ {A = Bool × List ℕ} (true, text) (negative, rest) = cc in
                (λ i. left i ∷ (let k : b ≡ 45 = grind (arith, nat_tests) in k) i ∷ right i ∷ text) ∙ (λ i. sign_text false (q i).0 ++ (q i).1)
            | false ↦ λ minus.
                elim (b == 43) as (λ t. (b == 43) ≡ t → choose t (Some (false, text)) None ≡ Some (negative, rest) → a ∷ b ∷ c ∷ text ≡ sign_text false negative ++ rest) [
                  | true ↦ λ plus is.
                      let q : ◌≡◌ {A = Bool × List ℕ} (false, text) (negative, rest) = cc in
                      (λ i. left i ∷ (let k : b ≡ 43 = grind (arith, nat_tests) in k) i ∷ right i ∷ text) ∙ (λ i. sign_text false (q i).0 ++ (q i).1)
                  | false ↦ λ plus is. cc
                ] refl
          ] refl
    ] refl given_text

-- ---- terms with their signs
-- a term that was written is read again
pub entry-complete : (first : Bool) (names : List VarName) (entry : Entry) (rest : List ℕ) → Fits names entry → Named names → ends rest ≡ true
    → entry_at first names (entry_text first names entry ++ rest) ≡ Some (entry, rest)
entry-complete first names entry rest fits named e =
    let negative = is_negative entry.1 in
    let n = unsigned_abs entry.1 in
    let term = term_text names entry.0 n ++ rest in
    ap (entry_at first names) (append_assoc (sign_text first negative) (term_text names entry.0 n) rest)
    ∙ ap (term_behind names) (sign-complete first negative term (no_minus names entry.0 n rest fits.within e))
    ∙ term-complete names negative entry.0 n rest fits.some fits.within fits.exponents named e
    ∙ (λ i. Some ((entry.0, signed-parts entry.1 i), rest))

-- a term that is read is spelled as it is written
pub record EntrySpells (first : Bool) (names : List VarName) (text : List ℕ) (entry : Entry) (rest : List ℕ) : Type 0 where
  pub spells : text ≡ entry_text first names entry ++ rest
  pub fits : Fits names entry

behind_sign : (names : List VarName) (r : Option (Bool × List ℕ)) (read : Entry × List ℕ) → term_behind names r ≡ Some read
    → (s : Bool × List ℕ) × (r ≡ Some s) × (term_at names s.0 s.1 ≡ Some read)
behind_sign names None read is = cc
behind_sign names (Some s) read is = (s, refl, is)

pub entry-sound : (first : Bool) (names : List VarName) (text : List ℕ) (entry : Entry) (rest : List ℕ) → entry_at first names text ≡ Some (entry, rest) → EntrySpells first names text entry rest
entry-sound first names text entry rest is =
    let g = behind_sign names (sign_at first text) (entry, rest) is in
    let t = term-sound names g.0.0 g.0.1 entry rest g.2 in
    record {
      spells = sign-sound first text g.0.0 g.0.1 g.1
          ∙ (λ i. sign_text first (sym t.signs i) ++ t.spells i)
          ∙ sym (append_assoc (sign_text first (is_negative entry.1)) (term_text names entry.0 (unsigned_abs entry.1)) rest);
      fits = t.fits;
    }

-- Small fields and their text.
use Rattle.std.proofs.Common.{◌≡◌, ◌≢◌, ℕ, ℤ, pos, ◌^◌, ◌<◌, ◌≤◌, suc, zero, List, [], ◌∷◌, ◌++◌, length, map, get_or, Bool, true, false, refl, sym, ◌∙◌, ap, arith, subst, Option, Some, None, append_assoc, append-nil, length-append}
use Rattle.std.specs.Prelude.{decimal, unsigned_abs}
use Rattle.std.proofs.lemmas.List.{map-append}
use Rattle.poly_model.specs.Content.{is_negative, signed_by}
use Rattle.poly_model.specs.declared.limits.TheConstants.{MOST_LETTERS, MOST_SIZE}
use Rattle.poly_text.specs.Reading.{number_at}
use Rattle.poly_text.proofs.Numbers.{begins_digit, number_at-sound, number_at-complete, digits_written}
use Rattle.proof_log.specs.Text.{letter_text, minus_where}
use Rattle.proof_log.proofs.Bytes.{heads}

-- ---- numbers
again : (most n : ℕ) → most < 2 ^ 127 → n ≤ most → number_at most (decimal n) ≡ Some (n, [])
unfolding begins_digit
again most n small within = ap (number_at most) (sym (append-nil (decimal n))) ∙ number_at-complete most n [] within (omega (arith, small)) refl

pub number_none : (least most : ℕ) (text : List ℕ) → most < 2 ^ 127 → number_at most text ≡ None → (n : ℕ) → least ≤ n → n ≤ most → text ≢ decimal n
number_none least most text small none n low within e = let h : ◌≡◌ {A = Option (ℕ × List ℕ)} None (Some (n, [])) = sym none ∙ ap (number_at most) e ∙ again most n small within in cc

read_is : (n m : ℕ) (x y : List ℕ) → ◌≡◌ {A = Option (ℕ × List ℕ)} (Some (n, x)) (Some (m, y)) → (n ≡ m) × (x ≡ y)
read_is n m x y e = let p : ◌≡◌ {A = ℕ × List ℕ} (n, x) (m, y) = cc in (ap (λ (r : ℕ × List ℕ). r.0) p, ap (λ (r : ℕ × List ℕ). r.1) p)

pub number_only : (most n : ℕ) (text rest : List ℕ) → most < 2 ^ 127 → number_at most text ≡ Some (n, rest) → (m : ℕ) → m ≤ most → text ≡ decimal m → (n ≡ m) × (rest ≡ [])
number_only most n text rest small some m within e = read_is n m rest [] (sym some ∙ ap (number_at most) e ∙ again most m small within)

pub number_low : (least most n : ℕ) (text rest : List ℕ) → most < 2 ^ 127 → number_at most text ≡ Some (n, rest) → n < least → (m : ℕ) → least ≤ m → m ≤ most → text ≢ decimal m
number_low least most n text rest small some low m above within e = let h = (number_only most n text rest small some m within e).0 in omega (arith, h, low, above)

pub number_more : (least most n : ℕ) (text rest : List ℕ) → most < 2 ^ 127 → number_at most text ≡ Some (n, rest) → (rest ≡ [] → ⊥) → (m : ℕ) → least ≤ m → m ≤ most → text ≢ decimal m
number_more least most n text rest small some more m above within e = more (number_only most n text rest small some m within e).1

pub number_reads : (least most n : ℕ) (text rest : List ℕ) → most < 2 ^ 127 → number_at most text ≡ Some (n, rest) → least ≤ n → rest ≡ [] → (least ≤ n) × (n ≤ most) × (text ≡ decimal n)
number_reads least most n text rest small some low none = let h = number_at-sound most text n rest (omega (arith, small)) some in (low, h.1, h.0 ∙ ap (λ t. decimal n ++ t) none ∙ append-nil (decimal n))

-- ---- a multiplier: a sign and a size
pub sign_kept : (negative : Bool) (n : ℕ) → 1 ≤ n → (is_negative (signed_by negative (pos n)) ≡ negative) × (unsigned_abs (signed_by negative (pos n)) ≡ n)
sign_kept true zero h = absurd (omega (arith, h))
sign_kept true (suc n) h = (refl, refl)
sign_kept false n h = (refl, refl)

-- the digits of a size begin with no minus
no_minus : (n : ℕ) → n ≤ MOST_SIZE → (rest : List ℕ) → decimal n ≢ 45 ∷ rest
unfolding begins_digit
no_minus n small rest e = let h = (digits_written n (omega (arith, small))).1 in let g : begins_digit (45 ∷ rest) ≡ true = subst (λ t. begins_digit t ≡ true) e h in cc

same_sign : (a b : Bool) (n : ℕ) (digits : List ℕ) → n ≤ MOST_SIZE → (a ≡ false → (rest : List ℕ) → minus_where a ++ digits ≢ 45 ∷ rest) → minus_where a ++ digits ≡ minus_where b ++ decimal n → digits ≡ decimal n
same_sign true true n digits small none e = (heads 45 45 digits (decimal n) e).1
same_sign true false n digits small none e = absurd (no_minus n small digits (sym e))
same_sign false true n digits small none e = absurd (none refl (decimal n) e)
same_sign false false n digits small none e = e

pub multiplier_none : (text digits : List ℕ) (negative : Bool) → text ≡ minus_where negative ++ digits → (negative ≡ false → (rest : List ℕ) → text ≢ 45 ∷ rest) → ((n : ℕ) → 1 ≤ n → n ≤ MOST_SIZE → digits ≢ decimal n)
    → (m : ℤ) → (1 ≤ unsigned_abs m) × (unsigned_abs m ≤ MOST_SIZE) → text ≢ minus_where (is_negative m) ++ decimal (unsigned_abs m)
multiplier_none text digits negative e none other m fits t =
    other (unsigned_abs m) fits.0 fits.1 (same_sign negative (is_negative m) (unsigned_abs m) digits fits.1 (λ f rest h. none f rest (e ∙ h)) (sym e ∙ t))

pub multiplier_reads : (text digits : List ℕ) (negative : Bool) (n : ℕ) (m : ℤ) → text ≡ minus_where negative ++ digits → (1 ≤ n) × (n ≤ MOST_SIZE) × (digits ≡ decimal n) → m ≡ signed_by negative (pos n)
    → ((1 ≤ unsigned_abs m) × (unsigned_abs m ≤ MOST_SIZE)) × (text ≡ minus_where (is_negative m) ++ decimal (unsigned_abs m))
multiplier_reads text digits negative n m e r s =
    let k = sign_kept negative n r.0 in
    let sign : is_negative m ≡ negative = ap is_negative s ∙ k.0 in
    let size : unsigned_abs m ≡ n = ap unsigned_abs s ∙ k.1 in
    ((subst (λ a. 1 ≤ a) (sym size) r.0, subst (λ a. a ≤ MOST_SIZE) (sym size) r.1), e ∙ (λ i. minus_where (sym sign i) ++ r.2 i) ∙ ap (λ a. minus_where (is_negative m) ++ decimal a) (sym size))

-- ---- paths
abbrev letters : List Bool → List ℕ
letters path = map letter_text path

pub no_letter : (path other : List Bool) (l : ℕ) (after : List ℕ) → ((plus : Bool) → l ≢ letter_text plus) → letters other ≢ letters path ++ l ∷ after
no_letter [] [] l after none e = cc
no_letter [] (plus ∷ other) l after none e = none plus (sym (ap (λ t. get_or t 0 0) e))
no_letter (b ∷ path) [] l after none e = cc
no_letter (b ∷ path) (c ∷ other) l after none e = no_letter path other l after none (heads (letter_text c) (letter_text b) (letters other) (letters path ++ l ∷ after) e).1

pub letters_many : (path : List Bool) → length (letters path) ≡ length path
letters_many [] = refl
letters_many (b ∷ path) = ap suc (letters_many path)

pub too_many : (path other : List Bool) (l : ℕ) (after : List ℕ) → MOST_LETTERS ≤ length path → length other ≤ MOST_LETTERS → letters other ≢ letters path ++ l ∷ after
too_many path other l after full few e =
    let a = letters_many other in
    let b = letters_many path in
    let c = length-append (letters path) (l ∷ after) in
    let d = ap length e in
    omega (arith, a, b, c, d, full, few)

pub letter_more : (path new : List Bool) (letter : Bool) (l : ℕ) (text after : List ℕ) → text ≡ letters path ++ l ∷ after → l ≡ letter_text letter → new ≡ path ++ letter ∷ [] → text ≡ letters new ++ after
letter_more path new letter l text after e f g =
    e ∙ ap (λ b. letters path ++ b ∷ after) f ∙ sym (append_assoc (letters path) (letter_text letter ∷ []) after) ∙ ap (λ t. t ++ after) (sym (map-append letter_text path (letter ∷ [])))
    ∙ ap (λ p. letters p ++ after) (sym g)

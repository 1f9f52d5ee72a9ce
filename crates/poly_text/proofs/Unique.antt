-- Each polynomial has one text, and each text is that of at most one polynomial.
use Rattle.std.proofs.Common.{◌≡◌, ◌≢◌, ℕ, ◌+◌, ◌<◌, ◌≤◌, zero, suc, List, [], ◌∷◌, ◌++◌, length, drop, replicate, Bool, true, false, ◌&&◌, ◌==◌, nat_lt, nat_le, nat_eq, cond, refl, sym, ◌∙◌, ap, arith, Option, Some, None, length-append}
use Rattle.std.specs.List.{list_all, list_any}
use Rattle.std.specs.Prelude.{ℤ, unsigned_abs, codes, decimal}
use Rattle.std.proofs.lemmas.Bool.{eqb-true, and_parts, and_from}
use Rattle.std.proofs.lemmas.Bool.Decides.{nat_tests}
use Rattle.poly_model.specs.Polynomial.{Entry, Polynomial, is_over}
use Rattle.poly_model.specs.Content.{is_negative}
use Rattle.poly_model.specs.Standard.{is_within, is_above, are_low, are_descending, is_standard}
use Rattle.poly_model.specs.Names.{is_parameter, is_dependent, numbers_of, count_from, are_numbered, are_variables}
use Rattle.poly_model.specs.declared.vars.VarName.{VarName}
use Rattle.poly_model.specs.declared.vars.VarName.TheVariants.{U, X}
use Rattle.poly_model.specs.declared.limits.TheConstants.{MOST_VARIABLES, MOST_DEGREE, MOST_TERMS, MOST_SIZE}
use Rattle.poly_text.specs.Text.{factors_text, is_left_out, term_text, sign_text, terms_text, poly_text}
use Rattle.poly_text.specs.Reading.{entry_at}
use Rattle.poly_text.proofs.Numbers.{digits_written}
use Rattle.poly_text.proofs.Factors.{ends, Named, Misses, FitExponents}
use Rattle.poly_text.proofs.Entries.{spare, Fits, entry-complete}

-- ---- names of a list of variables
misses_u : (n k : ℕ) (names : List VarName) → n < k → count_from k (numbers_of is_parameter names) ≡ true → Misses (U n) names
misses_u n k [] below c = tt
misses_u n k (U m ∷ names) below c =
    let p = and_parts (nat_eq m k) (count_from (k + 1) (numbers_of is_parameter names)) c in
    let same = eqb-true m k p.0 in
    ((λ e. let h : n ≡ m = cc in absurd (omega (arith, h, same, below))), misses_u n (k + 1) names (omega (arith, below)) p.1)
misses_u n k (X m ∷ names) below c = ((λ e. cc), misses_u n k names below c)

misses_x : (n k : ℕ) (names : List VarName) → n < k → count_from k (numbers_of is_dependent names) ≡ true → Misses (X n) names
misses_x n k [] below c = tt
misses_x n k (X m ∷ names) below c =
    let p = and_parts (nat_eq m k) (count_from (k + 1) (numbers_of is_dependent names)) c in
    let same = eqb-true m k p.0 in
    ((λ e. let h : n ≡ m = cc in absurd (omega (arith, h, same, below))), misses_x n (k + 1) names (omega (arith, below)) p.1)
misses_x n k (U m ∷ names) below c = ((λ e. cc), misses_x n k names below c)

named_from : (u x : ℕ) (names : List VarName) → u + length names ≤ 256 → x + length names ≤ 256 → count_from u (numbers_of is_parameter names) ≡ true → count_from x (numbers_of is_dependent names) ≡ true → Named names
named_from u x [] a b c d = tt
named_from u x (U m ∷ names) a b c d =
    let p = and_parts (nat_eq m u) (count_from (u + 1) (numbers_of is_parameter names)) c in
    let same = eqb-true m u p.0 in
    (omega (arith, same, a), misses_u m (u + 1) names (omega (arith, same)) p.1, named_from (u + 1) x names (omega (arith, a)) (omega (arith, b)) p.1 d)
named_from u x (X m ∷ names) a b c d =
    let p = and_parts (nat_eq m x) (count_from (x + 1) (numbers_of is_dependent names)) d in
    let same = eqb-true m x p.0 in
    (omega (arith, same, b), misses_x m (x + 1) names (omega (arith, same)) p.1, named_from u (x + 1) names (omega (arith, a)) (omega (arith, b)) c p.1)

pub few : (names : List VarName) → are_variables names ≡ true → length names ≤ MOST_VARIABLES
few names e = let p = (and_parts (nat_le (length names) MOST_VARIABLES) (are_numbered names) e).0 in grind (arith, nat_tests)

pub named : (names : List VarName) → are_variables names ≡ true → Named names
named names e =
    let p = (and_parts (nat_le (length names) MOST_VARIABLES) (are_numbered names) e).1 in
    let q = and_parts (count_from 1 (numbers_of is_parameter names)) (count_from 1 (numbers_of is_dependent names)) p in
    let f = few names e in
    named_from 1 1 names (omega (arith, f)) (omega (arith, f)) q.0 q.1

-- ---- entries within the limits fit
all_zero : (es : List ℕ) → list_all (λ e. nat_eq e 0) es ≡ true → es ≡ replicate (length es) 0
all_zero [] h = refl
all_zero (e ∷ es) h =
    let p = and_parts (nat_eq e 0) (list_all (λ e. nat_eq e 0) es) h in
    λ i. eqb-true e 0 p.0 i ∷ all_zero es p.1 i

fit_exponents : (n : ℕ) (names : List VarName) (es : List ℕ) → length es ≡ length names + n → are_low es ≡ true → list_all (λ e. nat_eq e 0) (drop (length names) es) ≡ true → FitExponents n names es
fit_exponents n [] es whole low zeros = all_zero es zeros ∙ ap (λ k. replicate k 0) (let q : length es ≡ n = omega (arith, whole) in q)
fit_exponents n (name ∷ names) [] whole low zeros = absurd (omega (arith, whole))
fit_exponents n (name ∷ names) (e ∷ es) whole low zeros =
    let p = and_parts (nat_le e MOST_DEGREE) (are_low es) low in
    ((let h = p.0 in grind (arith, nat_tests)), fit_exponents n names es (omega (arith, whole)) p.1 zeros)

zeros_only : (n : ℕ) → list_all (λ e. nat_eq e 0) (replicate n 0) ≡ true
zeros_only zero = refl
zeros_only (suc n) = zeros_only n

over_exponents : (n : ℕ) (names : List VarName) (es : List ℕ) → FitExponents n names es → list_all (λ e. nat_eq e 0) (drop (length names) es) ≡ true
over_exponents n [] es fit = ap (list_all (λ e. nat_eq e 0)) fit ∙ zeros_only n
over_exponents n (name ∷ names) [] fit = absurd fit
over_exponents n (name ∷ names) (e ∷ es) fit = over_exponents n names es fit.1

-- each entry fits
abbrev pub AllFit : List VarName → Polynomial → Type 0
AllFit names [] = Unit {0}
AllFit names (entry ∷ p) = Fits names entry × AllFit names p

fit_entry : (names : List VarName) (es : List ℕ) (c : ℤ) → length names ≤ MOST_VARIABLES → is_within (es, c) ≡ true → list_all (λ e. nat_eq e 0) (drop (length names) es) ≡ true → Fits names (es, c)
fit_entry names es c f w zeros =
    let p = and_parts (nat_eq (length es) MOST_VARIABLES && (nat_lt 0 (unsigned_abs c) && nat_le (unsigned_abs c) MOST_SIZE)) (are_low es) w in
    let q = and_parts (nat_eq (length es) MOST_VARIABLES) (nat_lt 0 (unsigned_abs c) && nat_le (unsigned_abs c) MOST_SIZE) p.0 in
    let r = and_parts (nat_lt 0 (unsigned_abs c)) (nat_le (unsigned_abs c) MOST_SIZE) q.1 in
    let whole = eqb-true (length es) MOST_VARIABLES q.0 in
    record {
      some = let h = r.0 in grind (arith, nat_tests);
      within = let h = r.1 in grind (arith, nat_tests);
      exponents = fit_exponents (spare names) names es (omega (arith, whole, f)) p.1 zeros;
    }

fit_descending : (names : List VarName) (p : Polynomial) → length names ≤ MOST_VARIABLES → are_descending p ≡ true → is_over (length names) p ≡ true → AllFit names p
fit_descending names [] f d o = tt
fit_descending names ((es, c) ∷ p) f d o =
    let w = and_parts (is_within (es, c)) (is_above (es, c) p && are_descending p) d in
    let r = and_parts (is_above (es, c) p) (are_descending p) w.1 in
    let z = and_parts (list_all (λ e. nat_eq e 0) (drop (length names) es)) (is_over (length names) p) o in
    (fit_entry names es c f w.0 z.0, fit_descending names p f r.1 z.1)

pub all_fit : (names : List VarName) (p : Polynomial) → length names ≤ MOST_VARIABLES → is_standard p ≡ true → is_over (length names) p ≡ true → AllFit names p
all_fit names p f s o = fit_descending names p f (and_parts (nat_le (length p) MOST_TERMS) (are_descending p) s).1 o

pub all_over : (names : List VarName) (p : Polynomial) → AllFit names p → is_over (length names) p ≡ true
all_over names [] fit = refl
all_over names (entry ∷ p) fit = and_from _ _ (over_exponents (spare names) names entry.0 fit.0.exponents) (all_over names p fit.1)

-- ---- texts
pub terms_end : (names : List VarName) (p : Polynomial) → ends (terms_text false names p) ≡ true
unfolding ends
terms_end names [] = refl
terms_end names ((es, c) ∷ p) =
    elim (is_negative c) as (λ t. ends (sign_text false t ++ term_text names es (unsigned_abs c) ++ terms_text false names p) ≡ true) [ true ↦ refl | false ↦ refl ]

none_of_zeros : (n : ℕ) → list_any (λ e. nat_lt 0 e) (replicate n 0) ≡ false
none_of_zeros zero = refl
none_of_zeros (suc n) = none_of_zeros n

some_factor : (n : ℕ) (joined : Bool) (names : List VarName) (es : List ℕ) → FitExponents n names es → list_any (λ e. nat_lt 0 e) es ≡ true → 0 < length (factors_text joined names es)
some_factor n joined [] es fit any = absurd (let h : false ≡ true = sym (none_of_zeros n) ∙ ap (list_any (λ e. nat_lt 0 e)) (sym fit) ∙ any in cc)
some_factor n joined (name ∷ names) [] fit any = absurd fit
some_factor n joined (name ∷ names) (zero ∷ es) fit any = some_factor n joined names es fit.1 any
some_factor n true (name ∷ names) (suc k ∷ es) fit any = omega arith
some_factor n false (name ∷ names) (suc k ∷ es) fit any = omega arith

some_term : (names : List VarName) (es : List ℕ) (n : ℕ) → n ≤ MOST_SIZE → FitExponents (spare names) names es → 0 < length (term_text names es n)
some_term names es n within fit =
    elim (is_left_out n es) as (λ t. is_left_out n es ≡ t → 0 < length (cond t (factors_text false names es) (decimal n ++ factors_text true names es))) [
      | true ↦ λ out. some_factor (spare names) false names es fit (and_parts (n == 1) (list_any (λ e. nat_lt 0 e) es) out).1
      | false ↦ λ out. let d = (digits_written n (omega (arith, within))).0 in omega (arith, d, length-append (decimal n) (factors_text true names es))
    ] refl

pub some_text : (first : Bool) (names : List VarName) (entry : Entry) (p : Polynomial) → Fits names entry → 0 < length (terms_text first names (entry ∷ p))
some_text first names entry p fits =
    let sign = sign_text first (is_negative entry.1) in
    let term = term_text names entry.0 (unsigned_abs entry.1) in
    let t = some_term names entry.0 (unsigned_abs entry.1) fits.within fits.exponents in
    omega (arith, t, length-append sign term, length-append (sign ++ term) (terms_text false names p))

-- a first term is read from its text
pub first_entry : (first : Bool) (names : List VarName) (entry : Entry) (p : Polynomial) → Named names → Fits names entry
    → entry_at first names (terms_text first names (entry ∷ p)) ≡ Some (entry, terms_text false names p)
first_entry first names entry p n fits = entry-complete first names entry (terms_text false names p) fits n (terms_end names p)

pub same_terms_text : (first : Bool) (names : List VarName) (p q : Polynomial) → Named names → AllFit names p → AllFit names q → terms_text first names p ≡ terms_text first names q → p ≡ q
same_terms_text first names [] [] n f g e = refl
same_terms_text first names [] (entry ∷ q) n f g e = absurd (let h = some_text first names entry q g.0 in let l = ap length e in omega (arith, h, l))
same_terms_text first names (entry ∷ p) [] n f g e = absurd (let h = some_text first names entry p f.0 in let l = ap length e in omega (arith, h, l))
same_terms_text first names (entry ∷ p) (other ∷ q) n f g e =
    let both : ◌≡◌ {A = Option (Entry × List ℕ)} (Some (entry, terms_text false names p)) (Some (other, terms_text false names q)) =
    sym (first_entry first names entry p n f.0) ∙ ap (entry_at first names) e ∙ first_entry first names other q n g.0
    in
    let pair : ◌≡◌ {A = Entry × List ℕ} (entry, terms_text false names p) (other, terms_text false names q) = cc in
    λ i. (pair i).0 ∷ same_terms_text false names p q n f.1 g.1 (ap (λ (r : Entry × List ℕ). r.1) pair) i

-- no term spells `0`
pub not_zero : (names : List VarName) (entry : Entry) (p : Polynomial) → Named names → Fits names entry → codes "0" ≢ terms_text true names (entry ∷ p)
not_zero names entry p n fits e =
    let h : ◌≡◌ {A = Option (Entry × List ℕ)} None (Some (entry, terms_text false names p)) = ap (entry_at true names) e ∙ first_entry true names entry p n fits in
    cc

pub same_text : (names : List VarName) (p q : Polynomial) → Named names → AllFit names p → AllFit names q → poly_text names p ≡ poly_text names q → p ≡ q
same_text names [] [] n f g e = refl
same_text names [] (entry ∷ q) n f g e = absurd (not_zero names entry q n g.0 e)
same_text names (entry ∷ p) [] n f g e = absurd (not_zero names entry p n f.0 (sym e))
same_text names (entry ∷ p) (other ∷ q) n f g e = same_terms_text true names (entry ∷ p) (other ∷ q) n f g e

pub short : (p : Polynomial) → is_standard p ≡ true → length p ≤ MOST_TERMS
short p s = let h = (and_parts (nat_le (length p) MOST_TERMS) (are_descending p) s).0 in grind (arith, nat_tests)

-- ---- `0` and the empty text
some_poly : (names : List VarName) (p : Polynomial) → AllFit names p → 0 < length (poly_text names p)
some_poly names [] f = omega arith
some_poly names (entry ∷ p) f = some_text true names entry p f.0

pub no_empty_text : (names : List VarName) (text : List ℕ) → are_variables names ≡ true → (length text == 0) ≡ true
    → (p : Polynomial) → is_standard p ≡ true → is_over (length names) p ≡ true → text ≢ poly_text names p
no_empty_text names text valid empty p s o e =
    let some = some_poly names p (all_fit names p (few names valid) s o) in
    let none : length text ≡ 0 = grind (arith, nat_tests) in
    absurd (omega (arith, some, none, ap length e))

pub zero_only : (names : List VarName) (text : List ℕ) → are_variables names ≡ true → text ≡ codes "0"
    → (p : Polynomial) → is_standard p ≡ true → is_over (length names) p ≡ true → text ≡ poly_text names p → p ≡ []
zero_only names text valid nought p s o e = same_text names p [] (named names valid) (all_fit names p (few names valid) s o) tt (sym e ∙ nought)

-- another text is that of terms
pub terms_only : (names : List VarName) (text : List ℕ) → text ≢ codes "0" → (p : Polynomial) → text ≡ poly_text names p → text ≡ terms_text true names p
terms_only names text other [] e = absurd (other e)
terms_only names text other (entry ∷ p) e = e

pub terms_spell : (names : List VarName) (text : List ℕ) → (length text == 0) ≡ false → (p : Polynomial) → text ≡ terms_text true names p → text ≡ poly_text names p
terms_spell names text some [] e = absurd (let h : 0 < length text = grind (arith, nat_tests) in omega (arith, h, ap length e))
terms_spell names text some (entry ∷ p) e = e

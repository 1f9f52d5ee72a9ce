-- Each byte of a polynomial's text is one that may stand there.
use Rattle.std.proofs.Common.{◌≡◌, ℕ, ◌^◌, ◌<◌, ◌≤◌, zero, suc, List, [], ◌∷◌, ◌++◌, Bool, true, false, ◌&&◌, ◌||◌, ◌==◌, cond, refl, ◌∙◌, arith, length}
use Rattle.std.specs.List.{list_all}
use Rattle.std.specs.Prelude.{decimal, unsigned_abs}
use Rattle.std.proofs.lemmas.Fmt.{decimal_is_IsNumeral_wide}
use Rattle.std.proofs.lemmas.List.Folds.{list_all-append}
use Rattle.std.proofs.lemmas.Bool.{and_parts}
use Rattle.poly_model.specs.Content.{is_negative}
use Rattle.poly_model.specs.Names.{number, are_variables}
use Rattle.poly_model.specs.Polynomial.{Polynomial, is_over}
use Rattle.poly_model.specs.Standard.{is_standard}
use Rattle.poly_model.specs.declared.vars.VarName.{VarName}
use Rattle.poly_model.specs.declared.vars.VarName.TheVariants.{U, X}
use Rattle.poly_model.specs.declared.limits.TheConstants.{MOST_DEGREE, MOST_SIZE, MOST_NUMBER}
use Rattle.poly_text.specs.Bytes.{is_poly_byte}
use Rattle.desk_io.specs.Characters.{is_digit}
use Rattle.poly_text.specs.Text.{exponent_text, factor_text, joint_text, factors_text, is_left_out, term_text, sign_text, entry_text, terms_text, poly_text}
use Rattle.poly_text.proofs.Numbers.{own}
use Rattle.poly_text.proofs.Factors.{Named, FitExponents}
use Rattle.poly_text.proofs.Entries.{spare}
use Rattle.poly_text.proofs.Unique.{AllFit, all_fit, few, named}

abbrev IsPlain : List ℕ → Type 0
IsPlain bs = list_all is_poly_byte bs ≡ true

joined-plain : (a b : List ℕ) → IsPlain a → IsPlain b → IsPlain (a ++ b)
joined-plain a b p q = list_all-append is_poly_byte a b ∙ (λ i. p i && q i)

digits-plain : (ds : List ℕ) → list_all is_digit ds ≡ true → IsPlain ds
digits-plain [] h = refl
digits-plain (d ∷ ds) h =
    let p = and_parts (is_digit d) (list_all is_digit ds) h in
    (λ i. (p.0 i || (d == 117 || (d == 120 || (d == 32 || (d == 42 || (d == 43 || (d == 45 || d == 94))))))) && digits-plain ds p.1 i)

-- a decimal has digits alone
pub decimal-digits : (n : ℕ) → n < 10 ^ 64 → list_all is_digit (decimal n) ≡ true
decimal-digits n small = own.from (decimal n) (decimal_is_IsNumeral_wide n small).0.1

decimal-plain : (n : ℕ) → n < 10 ^ 64 → IsPlain (decimal n)
decimal-plain n small = digits-plain (decimal n) (decimal-digits n small)

exponent-plain : (e : ℕ) → e ≤ MOST_DEGREE → IsPlain (exponent_text e)
exponent-plain e few = by_test (e == 1)
  where
    by_test : (b : Bool) → IsPlain (cond b [] (94 ∷ decimal e))
    by_test true = refl
    by_test false = decimal-plain e (omega (arith, few))

factor-plain : (name : VarName) (e : ℕ) → number name ≤ MOST_NUMBER → e ≤ MOST_DEGREE → IsPlain (factor_text name e)
factor-plain (U n) e small few = joined-plain (decimal n) (exponent_text e) (decimal-plain n (omega (arith, small))) (exponent-plain e few)
factor-plain (X n) e small few = joined-plain (decimal n) (exponent_text e) (decimal-plain n (omega (arith, small))) (exponent-plain e few)

joint-plain : (joined : Bool) → IsPlain (joint_text joined)
joint-plain true = refl
joint-plain false = refl

factors-plain : (n : ℕ) (joined : Bool) (names : List VarName) (es : List ℕ) → Named names → FitExponents n names es → IsPlain (factors_text joined names es)
factors-plain n joined [] es a f = refl
factors-plain n joined (name ∷ names) [] a f = refl
factors-plain n joined (name ∷ names) (zero ∷ es) a f = factors-plain n joined names es a.2 f.1
factors-plain n joined (name ∷ names) (suc e ∷ es) a f =
    joined-plain (joint_text joined ++ factor_text name (suc e)) (factors_text true names es)
    (joined-plain (joint_text joined) (factor_text name (suc e)) (joint-plain joined) (factor-plain name (suc e) a.0 f.0)) (factors-plain n true names es a.2 f.1)

term-plain : (names : List VarName) (es : List ℕ) (size : ℕ) → Named names → FitExponents (spare names) names es → size ≤ MOST_SIZE → IsPlain (term_text names es size)
term-plain names es size a f small = by_test (is_left_out size es)
  where
    by_test : (b : Bool) → IsPlain (cond b (factors_text false names es) (decimal size ++ factors_text true names es))
    by_test true = factors-plain (spare names) false names es a f
    by_test false = joined-plain (decimal size) (factors_text true names es) (decimal-plain size (omega (arith, small))) (factors-plain (spare names) true names es a f)

sign-plain : (first negative : Bool) → IsPlain (sign_text first negative)
sign-plain true true = refl
sign-plain true false = refl
sign-plain false true = refl
sign-plain false false = refl

terms-plain : (first : Bool) (names : List VarName) (p : Polynomial) → Named names → AllFit names p → IsPlain (terms_text first names p)
terms-plain first names [] a f = refl
terms-plain first names (entry ∷ p) a f =
    joined-plain (entry_text first names entry) (terms_text false names p)
    (joined-plain (sign_text first (is_negative entry.1)) (term_text names entry.0 (unsigned_abs entry.1))
    (sign-plain first (is_negative entry.1)) (term-plain names entry.0 (unsigned_abs entry.1) a f.0.exponents f.0.within))
    (terms-plain false names p a f.1)

pub poly-plain : (names : List VarName) (p : Polynomial) → are_variables names ≡ true → is_standard p ≡ true → is_over (length names) p ≡ true
    → list_all is_poly_byte (poly_text names p) ≡ true
poly-plain names [] valid standard over = refl
poly-plain names (entry ∷ p) valid standard over = terms-plain true names (entry ∷ p) (named names valid) (all_fit names (entry ∷ p) (few names valid) standard over)

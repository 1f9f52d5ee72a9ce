-- How long the text of a polynomial is.
use Rattle.std.proofs.Common.{◌≡◌, ℕ, ◌+◌, ◌*◌, ◌^◌, ◌<◌, ◌≤◌, zero, suc, List, [], ◌∷◌, ◌++◌, length, arith, Bool, true, false, cond, ◌==◌, nat_le, nat_eq, length-append}
use Rattle.std.specs.Prelude.{decimal, unsigned_abs, codes}
use Rattle.std.proofs.lemmas.Fmt.{length-decimal-le_wide}
use Rattle.std.proofs.lemmas.Bool.{eqb-true, and_parts}
use Rattle.poly_model.specs.Polynomial.{Polynomial}
use Rattle.poly_model.specs.Content.{is_negative}
use Rattle.poly_model.specs.Names.{number, is_parameter, is_dependent, numbers_of, count_from, are_numbered, are_variables}
use Rattle.poly_model.specs.declared.vars.VarName.{VarName}
use Rattle.poly_model.specs.declared.vars.VarName.TheVariants.{U, X}
use Rattle.poly_model.specs.declared.limits.TheConstants.{MOST_VARIABLES, MOST_DEGREE, MOST_SIZE}
use Rattle.poly_text.specs.Text.{exponent_text, factor_text, joint_text, factors_text, is_left_out, term_text, sign_text, entry_text, terms_text, poly_text}
use Rattle.poly_text.proofs.Factors.{FitExponents}
use Rattle.poly_text.proofs.Entries.{spare}
use Rattle.poly_text.proofs.Unique.{AllFit, all_fit, few}
use Rattle.proof_log.specs.Text.{FitsPoly}
use Rattle.proof_log.specs.Lengths.{term_most}

-- ---- names have at most two digits
abbrev pub FewDigits : List VarName → Type 0
FewDigits [] = Unit {0}
FewDigits (name ∷ names) = (number name < 100) × FewDigits names

abbrev AllBelow : ℕ → List ℕ → Type 0
AllBelow m [] = Unit {0}
AllBelow m (n ∷ ns) = (n < m) × AllBelow m ns

counts-below : (k : ℕ) (ns : List ℕ) (m : ℕ) → count_from k ns ≡ true → k + length ns ≤ m → AllBelow m ns
counts-below k [] m h low = tt
counts-below k (n ∷ ns) m h low =
    let a = and_parts (nat_eq n k) (count_from (k + 1) ns) h in
    let e : n ≡ k = eqb-true n k a.0 in
    (omega (arith, e, low), counts-below (k + 1) ns m a.1 (omega (arith, low)))

few-names : (names : List VarName) → AllBelow 100 (numbers_of is_parameter names) → AllBelow 100 (numbers_of is_dependent names) → FewDigits names
few-names [] u x = tt
few-names (U n ∷ names) u x = (u.0, few-names names u.1 x)
few-names (X n ∷ names) u x = (x.0, few-names names u x.1)

counts-less : (is_kind : VarName → Bool) (names : List VarName) → length (numbers_of is_kind names) ≤ length names
counts-less is_kind [] = omega arith
counts-less is_kind (name ∷ names) =
    let h = counts-less is_kind names in
    elim (is_kind name) as (λ t. length (cond t (number name ∷ numbers_of is_kind names) (numbers_of is_kind names)) ≤ length (name ∷ names)) [
      | true ↦ omega (arith, h)
      | false ↦ omega (arith, h)
    ]

pub few-digits : (names : List VarName) → are_variables names ≡ true → FewDigits names
few-digits names v =
    let a = and_parts (nat_le (length names) MOST_VARIABLES) (are_numbered names) v in
    let b = and_parts (count_from 1 (numbers_of is_parameter names)) (count_from 1 (numbers_of is_dependent names)) a.1 in
    let most = few names v in
    let x = counts-less is_parameter names in
    let y = counts-less is_dependent names in
    few-names names (counts-below 1 (numbers_of is_parameter names) 100 b.0 (omega (arith, most, x))) (counts-below 1 (numbers_of is_dependent names) 100 b.1 (omega (arith, most, y)))

-- ---- terms
pub small-decimal : (k n : ℕ) → 0 < k → n < 10 ^ k → n < 10 ^ 64 → length (decimal n) ≤ k
small-decimal = length-decimal-le_wide

exponent-short : (e : ℕ) → e ≤ MOST_DEGREE → length (exponent_text e) ≤ 3
exponent-short e h = by (e == 1)
  where
    by : (b : Bool) → length (cond b [] (codes "^" ++ decimal e)) ≤ 3
    by true = omega arith
    by false = let d = small-decimal 2 e (omega arith) (omega (arith, h)) (omega (arith, h)) in omega (arith, d, length-append (codes "^") (decimal e))

factor-short : (name : VarName) (e : ℕ) → number name < 100 → e ≤ MOST_DEGREE → length (factor_text name e) ≤ 6
factor-short name e small h =
    let d = small-decimal 2 (number name) (omega arith) (omega (arith, small)) (omega (arith, small)) in
    let x = exponent-short e h in
    omega (arith, d, x, length-append (decimal (number name)) (exponent_text e))

joint-short : (joined : Bool) → length (joint_text joined) ≤ 1
joint-short true = omega arith
joint-short false = omega arith

factors-short : (n : ℕ) (joined : Bool) (names : List VarName) (es : List ℕ) → FewDigits names → FitExponents n names es → length (factors_text joined names es) ≤ 7 * length names
factors-short n joined [] es a f = omega arith
factors-short n joined (name ∷ names) [] a f = omega arith
factors-short n joined (name ∷ names) (zero ∷ es) a f = let h = factors-short n joined names es a.1 f.1 in omega (arith, h)
factors-short n joined (name ∷ names) (suc e ∷ es) a f =
    let h = factors-short n true names es a.1 f.1 in
    let x = factor-short name (suc e) a.0 f.0 in
    let j = joint-short joined in
    omega (arith, h, x, j, length-append (joint_text joined) (factor_text name (suc e)), length-append (joint_text joined ++ factor_text name (suc e)) (factors_text true names es))

size-short : (n : ℕ) → n ≤ MOST_SIZE → length (decimal n) ≤ 39
size-short n h = small-decimal 39 n (omega arith) (omega (arith, h)) (omega (arith, h))

term-short : (names : List VarName) (es : List ℕ) (size : ℕ) → FewDigits names → FitExponents (spare names) names es → size ≤ MOST_SIZE → length (term_text names es size) ≤ 39 + 7 * length names
term-short names es size a f small = by (is_left_out size es)
  where
    by : (b : Bool) → length (cond b (factors_text false names es) (decimal size ++ factors_text true names es)) ≤ 39 + 7 * length names
    by true = let h = factors-short (spare names) false names es a f in omega (arith, h)
    by false = let h = factors-short (spare names) true names es a f in let d = size-short size small in omega (arith, h, d, length-append (decimal size) (factors_text true names es))

sign-short : (first negative : Bool) → length (sign_text first negative) ≤ 3
sign-short true true = omega arith
sign-short true false = omega arith
sign-short false true = omega arith
sign-short false false = omega arith

terms-short : (first : Bool) (names : List VarName) (p : Polynomial) → FewDigits names → length names ≤ MOST_VARIABLES → AllFit names p → length (terms_text first names p) ≤ term_most * length p
terms-short first names [] a few f = omega arith
terms-short first names (entry ∷ p) a few f =
    let h = terms-short false names p a few f.1 in
    let t = term-short names entry.0 (unsigned_abs entry.1) a f.0.exponents f.0.within in
    let s = sign-short first (is_negative entry.1) in
    omega (arith, h, t, s, few, length-append (sign_text first (is_negative entry.1)) (term_text names entry.0 (unsigned_abs entry.1)), length-append (entry_text first names entry) (terms_text false names p))

pub poly-short : (names : List VarName) (p : Polynomial) → are_variables names ≡ true → FitsPoly names p → length (poly_text names p) ≤ 1 + term_most * length p
poly-short names [] v f = omega arith
poly-short names (entry ∷ p) v f =
    let h = terms-short true names (entry ∷ p) (few-digits names v) (few names v) (all_fit names (entry ∷ p) (few names v) f.0 f.1) in
    omega (arith, h)

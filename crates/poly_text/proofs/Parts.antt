-- Texts cut into the pieces that are printed.
use Rattle.std.proofs.Common.{◌≡◌, ℕ, ◌+◌, ◌^◌, ◌/◌, ◌%◌, ◌<◌, ◌≤◌, suc, List, [], ◌∷◌, ◌++◌, length, drop, get_or, Bool, true, false, ◌==◌, sym, ◌∙◌, ap, arith, append_assoc}
use Rattle.std.specs.Prelude.{decimal}
use Rattle.std.proofs.lemmas.Bool.Decides.{nat_tests}
use Rattle.std.proofs.lemmas.Fmt.{decimal_step}
use Rattle.std.proofs.lemmas.List.{drop_all}
use Rattle.std.proofs.Math.Seq.{drop-cons}
use Rattle.poly_model.specs.Polynomial.{Polynomial}
use Rattle.poly_model.specs.Standard.{entry_of, polynomial_of}
use Rattle.poly_model.specs.declared.term.Term.{Term}
use Rattle.poly_model.specs.declared.vars.VarName.{VarName}
use Rattle.poly_model.specs.Names.{number}
use Rattle.poly_text.specs.Text.{factors_text, entry_text, terms_text, poly_text}

-- one more digit of a number
pub digit_more : (front now digits : List ℕ) (number : ℕ) → 10 ≤ number → number < 2 ^ 64 → now ≡ front ++ digits → digits ≡ decimal (number / 10)
    → now ++ (48 + number % 10) ∷ [] ≡ front ++ decimal number
digit_more front now digits number long fits e d =
    let last = (48 + number % 10) ∷ [] in
    ap (λ l. l ++ last) e ∙ append_assoc front digits last ∙ ap (λ l. front ++ l) (ap (λ l. l ++ last) d ∙ sym (decimal_step number long fits))

-- the factors from place i on
module _ (joined : Bool) (names : List VarName) (es : List ℕ) (i : ℕ) (name : VarName) where
  cut : i < length names → i < length es → factors_text joined (drop i names) (drop i es) ≡ factors_text joined (get_or names i name ∷ drop (i + 1) names) (get_or es i 0 ∷ drop (i + 1) es)
  cut below within =
      let step : suc i ≡ i + 1 = omega arith in
      λ j. factors_text joined ((drop-cons names i name below ∙ (λ k. get_or names i name ∷ drop (step k) names)) j) ((drop-cons es i 0 within ∙ (λ k. get_or es i 0 ∷ drop (step k) es)) j)

  pub factor_skipped : i < length names → i < length es → get_or es i 0 ≡ 0 → factors_text joined (drop i names) (drop i es) ≡ factors_text joined (drop (i + 1) names) (drop (i + 1) es)
  factor_skipped below within none = cut below within ∙ ap (λ k. factors_text joined (get_or names i name ∷ drop (i + 1) names) (k ∷ drop (i + 1) es)) none

-- the terms from place i on
pub entry_next : (names : List VarName) (terms : List Term) (i : ℕ) (d : Term) (piece : List ℕ) → i < length terms → piece ≡ entry_text (i == 0) names (entry_of (get_or terms i d))
    → terms_text (i == 0) names (polynomial_of (drop i terms)) ≡ piece ++ terms_text (i + 1 == 0) names (polynomial_of (drop (i + 1) terms))
entry_next names terms i d piece below spells =
    let step : suc i ≡ i + 1 = omega arith in
    let later : (i + 1 == 0) ≡ false = grind (arith, nat_tests) in
    ap (λ l. terms_text (i == 0) names (polynomial_of l)) (drop-cons terms i d below ∙ (λ k. get_or terms i d ∷ drop (step k) terms))
    ∙ (λ k. sym spells k ++ terms_text (sym later k) names (polynomial_of (drop (i + 1) terms)))

pub terms_done : (first : Bool) (names : List VarName) (terms : List Term) (i : ℕ) → length terms ≤ i → terms_text first names (polynomial_of (drop i terms)) ≡ []
terms_done first names terms i past = ap (λ l. terms_text first names (polynomial_of l)) (drop_all i terms past)

-- a polynomial of terms
pub poly_of_terms : (names : List VarName) (terms : List Term) (p : Polynomial) → polynomial_of terms ≡ p → (length terms == 0) ≡ false → poly_text names p ≡ terms_text true names (polynomial_of terms)
poly_of_terms names [] p e some = absurd (let h : true ≡ false = some in cc)
poly_of_terms names (t ∷ terms) p e some = ap (poly_text names) (sym e)

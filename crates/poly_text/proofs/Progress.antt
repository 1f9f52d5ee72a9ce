-- The terms that are read so far.
use Rattle.std.proofs.Common.{◌≡◌, ◌≢◌, ℕ, ◌<◌, ◌≤◌, suc, List, [], ◌∷◌, ◌++◌, length, Bool, true, false, ◌==◌, refl, sym, ◌∙◌, ap, arith, Option, Some, None, append_assoc, append-nil, length-append}
use Rattle.std.proofs.lemmas.Bool.Decides.{nat_tests}
use Rattle.poly_model.specs.Polynomial.{Entry, Polynomial, is_over}
use Rattle.poly_model.specs.Standard.{is_standard}
use Rattle.poly_model.specs.Names.{are_variables}
use Rattle.poly_model.specs.declared.limits.TheConstants.{MOST_TERMS}
use Rattle.poly_model.specs.declared.vars.VarName.{VarName}
use Rattle.poly_text.specs.Text.{entry_text, terms_text}
use Rattle.poly_text.specs.Reading.{entry_at}
use Rattle.poly_text.proofs.Factors.{Named}
use Rattle.poly_text.proofs.Entries.{Fits, entry-sound}
use Rattle.poly_text.proofs.Unique.{AllFit, first_entry, all_fit, all_over, few, named, short, same_terms_text}

-- what a polynomial of the text is behind the terms that were read
pub record Left (names : List VarName) (rest : List ℕ) (done p : Polynomial) : Type 0 where
  pub left : Polynomial
  pub parts : p ≡ done ++ left
  pub spells : rest ≡ terms_text (length done == 0) names left
  pub fit : AllFit names left

pub record TermsRead (names : List VarName) (text rest : List ℕ) (done : Polynomial) : Type 0 where
  pub spells : text ≡ terms_text true names done ++ rest
  pub fit : AllFit names done
  pub leaves : (p : Polynomial) → AllFit names p → text ≡ terms_text true names p → Left names rest done p

pub none_read : (names : List VarName) (text : List ℕ) → TermsRead names text text []
none_read names text = record { spells = refl; fit = tt; leaves = λ p fit e. record { left = p; parts = refl; spells = e; fit = fit } }

later_text : (names : List VarName) (done : Polynomial) (entry : Entry) → terms_text false names (done ++ entry ∷ []) ≡ terms_text false names done ++ entry_text false names entry
later_text names [] entry = append-nil (entry_text false names entry)
later_text names (other ∷ done) entry =
    ap (λ l. entry_text false names other ++ l) (later_text names done entry) ∙ sym (append_assoc (entry_text false names other) (terms_text false names done) (entry_text false names entry))

more_text : (names : List VarName) (done : Polynomial) (entry : Entry) → terms_text true names (done ++ entry ∷ []) ≡ terms_text true names done ++ entry_text (length done == 0) names entry
more_text names [] entry = append-nil (entry_text true names entry)
more_text names (other ∷ done) entry =
    ap (λ l. entry_text true names other ++ l) (later_text names done entry) ∙ sym (append_assoc (entry_text true names other) (terms_text false names done) (entry_text false names entry))
    ∙ ap (λ t. (entry_text true names other ++ terms_text false names done) ++ entry_text t names entry) (sym (not_none (length (other ∷ done)) (omega arith)))
  where
    not_none : (n : ℕ) → 0 < n → (n == 0) ≡ false
    not_none n some = grind (arith, nat_tests)

fit_more : (names : List VarName) (done : Polynomial) (entry : Entry) → AllFit names done → Fits names entry → AllFit names (done ++ entry ∷ [])
fit_more names [] entry f g = (g, tt)
fit_more names (other ∷ done) entry f g = (f.0, fit_more names done entry f.1 g)

not_first : (done : Polynomial) (entry : Entry) → (length (done ++ entry ∷ []) == 0) ≡ false
not_first done entry = let h = length-append done (entry ∷ []) in grind (arith, nat_tests)

left_more : (names : List VarName) (rest after : List ℕ) (done p : Polynomial) (entry : Entry) → Named names → 0 < length rest → entry_at (length done == 0) names rest ≡ Some (entry, after)
    → (left : Polynomial) → p ≡ done ++ left → rest ≡ terms_text (length done == 0) names left → AllFit names left → Left names after (done ++ entry ∷ []) p
left_more names rest after done p entry n some is [] parts spells fit = absurd (let h = ap length spells in omega (arith, some, h))
left_more names rest after done p entry n some is (other ∷ left) parts spells fit =
    let both : ◌≡◌ {A = Option (Entry × List ℕ)} (Some (entry, after)) (Some (other, terms_text false names left)) =
    sym is ∙ ap (entry_at (length done == 0) names) spells ∙ first_entry (length done == 0) names other left n fit.0
    in
    let pair : ◌≡◌ {A = Entry × List ℕ} (entry, after) (other, terms_text false names left) = cc in
    record {
      left = left;
      parts = parts ∙ (λ i. done ++ (sym pair i).0 ∷ left) ∙ sym (append_assoc done (entry ∷ []) left);
      spells = ap (λ (r : Entry × List ℕ). r.1) pair ∙ ap (λ t. terms_text t names left) (sym (not_first done entry));
      fit = fit.1;
    }

pub one_more_read : (names : List VarName) (text rest after : List ℕ) (done : Polynomial) (entry : Entry) → Named names → 0 < length rest
    → entry_at (length done == 0) names rest ≡ Some (entry, after) → TermsRead names text rest done → TermsRead names text after (done ++ entry ∷ [])
one_more_read names text rest after done entry n some is h =
    let s = entry-sound (length done == 0) names rest entry after is in
    record {
      spells = h.spells ∙ ap (λ l. terms_text true names done ++ l) s.spells
          ∙ sym (append_assoc (terms_text true names done) (entry_text (length done == 0) names entry) after)
          ∙ ap (λ l. l ++ after) (sym (more_text names done entry));
      fit = fit_more names done entry h.fit s.fits;
      leaves = λ p fit e. let l = h.leaves p fit e in left_more names rest after done p entry n some is l.left l.parts l.spells l.fit;
    }

none_left : (names : List VarName) (rest : List ℕ) (done : Polynomial) → Named names → 0 < length rest → entry_at (length done == 0) names rest ≡ None
    → (left : Polynomial) → rest ≡ terms_text (length done == 0) names left → AllFit names left → ⊥
none_left names rest done n some is [] spells fit = absurd (let h = ap length spells in omega (arith, some, h))
none_left names rest done n some is (other ∷ left) spells fit =
    let h : ◌≡◌ {A = Option (Entry × List ℕ)} None (Some (other, terms_text false names left)) =
    sym is ∙ ap (entry_at (length done == 0) names) spells ∙ first_entry (length done == 0) names other left n fit.0
    in
    cc

-- no term stands at the rest
pub refused : (names : List VarName) (text rest : List ℕ) (done : Polynomial) → Named names → 0 < length rest → entry_at (length done == 0) names rest ≡ None
    → TermsRead names text rest done → (p : Polynomial) → AllFit names p → text ≢ terms_text true names p
refused names text rest done n some is h p fit e = let l = h.leaves p fit e in none_left names rest done n some is l.left l.spells l.fit

more_terms : (names : List VarName) (rest : List ℕ) (done p : Polynomial) → 0 < length rest → (left : Polynomial) → p ≡ done ++ left → rest ≡ terms_text (length done == 0) names left → length done < length p
more_terms names rest done p some [] parts spells = absurd (let h = ap length spells in omega (arith, some, h))
more_terms names rest done p some (other ∷ left) parts spells = omega (arith, ap length parts, length-append done (other ∷ left))

-- a term too many
pub too_many : (names : List VarName) (text rest : List ℕ) (done : Polynomial) (most : ℕ) → 0 < length rest → most ≤ length done → TermsRead names text rest done
    → (p : Polynomial) → AllFit names p → length p ≤ most → text ≢ terms_text true names p
too_many names text rest done most some many h p fit within e =
    let l = h.leaves p fit e in
    let m = more_terms names rest done p some l.left l.parts l.spells in
    absurd (omega (arith, m, many, within))

-- ---- the same, from the tests of the code
module _ (names : List VarName) (text rest : List ℕ) (done : Polynomial) (valid : are_variables names ≡ true) (read : TermsRead names text rest done) where
  pub read_whole : (length rest == 0) ≡ true → (is_over (length names) done ≡ true) × (text ≡ terms_text true names done)
  read_whole empty =
      let e : rest ≡ [] = nothing rest empty in
      (all_over names done read.fit, read.spells ∙ ap (λ l. terms_text true names done ++ l) e ∙ append-nil (terms_text true names done))
    where
      nothing : (rest : List ℕ) → (length rest == 0) ≡ true → rest ≡ []
      nothing [] e = refl
      nothing (b ∷ rest) e = absurd (let h : suc (length rest) ≡ 0 = grind (arith, nat_tests) in omega (arith, h))

  pub read_only : (length rest == 0) ≡ true → (p : Polynomial) → is_standard p ≡ true → is_over (length names) p ≡ true → text ≡ terms_text true names p → p ≡ done
  read_only empty p s o e =
      same_terms_text true names p done (named names valid) (all_fit names p (few names valid) s o) read.fit (sym e ∙ (read_whole empty).1)

  some_rest : (length rest == 0) ≡ false → 0 < length rest
  some_rest e = grind (arith, nat_tests)

  pub past_the_limit : (length rest == 0) ≡ false → MOST_TERMS ≤ length done → (p : Polynomial) → is_standard p ≡ true → is_over (length names) p ≡ true → text ≢ terms_text true names p
  past_the_limit more many p s o =
      too_many names text rest done MOST_TERMS (some_rest more) many read p (all_fit names p (few names valid) s o) (short p s)

  pub no_entry : (length rest == 0) ≡ false → (first : Bool) → first ≡ (length done == 0) → entry_at first names rest ≡ None
      → (p : Polynomial) → is_standard p ≡ true → is_over (length names) p ≡ true → text ≢ terms_text true names p
  no_entry more first same is p s o =
      refused names text rest done (named names valid) (some_rest more) (ap (λ t. entry_at t names rest) (sym same) ∙ is) read p (all_fit names p (few names valid) s o)

  pub next_entry : (length rest == 0) ≡ false → (first : Bool) → first ≡ (length done == 0) → (entry : Entry) (after : List ℕ) → entry_at first names rest ≡ Some (entry, after)
      → TermsRead names text after (done ++ entry ∷ [])
  next_entry more first same entry after is =
      one_more_read names text rest after done entry (named names valid) (some_rest more) (ap (λ t. entry_at t names rest) (sym same) ∙ is) read

-- Fields, variables and polynomials as items that stand one behind the other.
use Rattle.std.proofs.Common.{◌≡◌, ◌≢◌, ℕ, ◌≤◌, List, [], ◌∷◌, ◌++◌, length, Bool, true, false, refl, sym, ◌∙◌, ap, subst, append-nil, arith}
use Rattle.std.specs.Prelude.{codes}
use Rattle.poly_model.specs.Names.{are_variables, number}
use Rattle.poly_model.specs.Polynomial.{Polynomial}
use Rattle.poly_model.specs.declared.vars.VarName.{VarName}
use Rattle.poly_model.specs.declared.limits.TheConstants.{MOST_NUMBER}
use Rattle.poly_text.specs.Text.{poly_text, variable_text}
use Rattle.poly_text.proofs.Factors.{Named}
use Rattle.poly_text.proofs.Unique.{named}
use Rattle.proof_log.specs.declared.field.FieldKind.{FieldKind}
use Rattle.proof_log.specs.Cuts.{Avoids, EndsAt}
use Rattle.proof_log.specs.Kinds.{IsAt, AreAt, AreNames, poly_mark}
use Rattle.proof_log.specs.Text.{Field, field_text, FitsField, fields_text, FitsPoly, FitPolys, more_text, polys_text, names_text}
use Rattle.proof_log.proofs.Bytes.{high-blank, poly-semicolon}
use Rattle.proof_log.proofs.Fields.{field-high, same-field}
use Rattle.proof_log.proofs.OneLine.{name-high, same-name, same-poly}
use Rattle.proof_log.proofs.Items.{Items, All, text_of, Going, no_mark, no_item, one_more, all_fit, all_only}

-- ---- fields of given kinds
abbrev pub FieldFits : List FieldKind → Field → Type 0
FieldFits [] f = ⊥
FieldFits (k ∷ ks) f = IsAt k f

abbrev pub NoKinds : List FieldKind → Type 0
NoKinds [] = Unit {0}
NoKinds (k ∷ ks) = ⊥

abbrev pub other_kinds : List FieldKind → List FieldKind
other_kinds [] = []
other_kinds (k ∷ ks) = ks

pub fits_field : (ks : List FieldKind) (f : Field) → FieldFits ks f → FitsField f
fits_field [] f h = absurd h
fits_field (k ∷ ks) f h = h.1

pub same_at : (ks : List FieldKind) (f g : Field) → FieldFits ks f → FieldFits ks g → field_text f ≡ field_text g → f ≡ g
same_at [] f g p q e = absurd p
same_at (k ∷ ks) f g p q e = same-field f g (p.0 ∙ sym q.0) p.1 q.1 e

abbrev pub fields : Items (List FieldKind) Field
fields = record {
  stop = 32;
  mark = λ ks. 32 ∷ [];
  next = other_kinds;
  text = field_text;
  Fits = FieldFits;
  Done = NoKinds;
  End = EndsAt 32;
  plain = λ ks f h. high-blank (field_text f) (field-high f (fits_field ks f h));
  same = same_at;
  opens = λ ks x. refl;
  ends = λ x e. e;
}

pub fields_are : (ks : List FieldKind) (fs : List Field) → All fields ks fs → AreAt ks fs
unfolding All
fields_are [] [] h = tt
fields_are [] (f ∷ fs) h = h.0
fields_are (k ∷ ks) [] h = h
fields_are (k ∷ ks) (f ∷ fs) h = (h.0, fields_are ks fs h.1)

pub are_fields : (ks : List FieldKind) (fs : List Field) → AreAt ks fs → All fields ks fs
unfolding All
are_fields [] [] h = tt
are_fields [] (f ∷ fs) h = absurd h
are_fields (k ∷ ks) [] h = h
are_fields (k ∷ ks) (f ∷ fs) h = (h.0, are_fields ks fs h.1)

pub fields_spelled : (ks : List FieldKind) (fs : List Field) → text_of fields ks fs ≡ fields_text fs
unfolding text_of
fields_spelled ks [] = refl
fields_spelled ks (f ∷ fs) = ap (λ t. 32 ∷ (field_text f ++ t)) (fields_spelled (other_kinds ks) fs)

module _ (start : List FieldKind) (text rest : List ℕ) (done : List Field) where
  refused : ((fs : List Field) (end : List ℕ) → All fields start fs → EndsAt 32 end → text ≢ text_of fields start fs ++ end) → (fs : List Field) (end : List ℕ) → AreAt start fs → EndsAt 32 end → text ≢ fields_text fs ++ end
  refused none fs end f e t = none fs end (are_fields start fs f) e (t ∙ ap (λ l. l ++ end) (sym (fields_spelled start fs)))

  pub no_blank : (k : FieldKind) (ks left : List FieldKind) → Going fields start left text rest done → left ≡ k ∷ ks → ((behind : List ℕ) → rest ≢ 32 ∷ behind)
      → (fs : List Field) (end : List ℕ) → AreAt start fs → EndsAt 32 end → text ≢ fields_text fs ++ end
  no_blank k ks left g e none = refused (no_mark fields start (k ∷ ks) text rest done (subst (λ l. Going fields start l text rest done) e g) (λ d x. d) none)

  pub no_field : (k : FieldKind) (ks left : List FieldKind) (behind word next : List ℕ) → Going fields start left text rest done → left ≡ k ∷ ks → rest ≡ 32 ∷ behind → behind ≡ word ++ next → Avoids 32 word → EndsAt 32 next
      → ((f : Field) → IsAt k f → word ≢ field_text f) → (fs : List Field) (end : List ℕ) → AreAt start fs → EndsAt 32 end → text ≢ fields_text fs ++ end
  no_field k ks left behind word next g e r w v u none =
      refused (no_item fields start (k ∷ ks) text rest behind word next done (subst (λ l. Going fields start l text rest done) e g) (λ d x. d) r w v u none)

  pub one_field : (k : FieldKind) (ks left : List FieldKind) (behind word next : List ℕ) (f : Field) (new : List Field) → Going fields start left text rest done → left ≡ k ∷ ks → rest ≡ 32 ∷ behind → behind ≡ word ++ next → Avoids 32 word
      → EndsAt 32 next → IsAt k f → word ≡ field_text f → new ≡ done ++ f ∷ [] → Going fields start ks text next new
  one_field k ks left behind word next f new g e r w v u fits t n =
      subst (Going fields start ks text next) (sym n) (one_more fields start (k ∷ ks) text rest behind word next done f (subst (λ l. Going fields start l text rest done) e g) (λ d x. d) r w v u fits t)

  pub fields_read : (left : List FieldKind) → Going fields start left text rest done → length left ≡ 0 → AreAt start done × (text ≡ fields_text done ++ rest)
  fields_read [] g e = (fields_are start done (all_fit fields start [] text rest done g tt), g.spelled ∙ ap (λ l. l ++ rest) (fields_spelled start done))
  fields_read (k ∷ left) g e = absurd (omega (arith, e))

  pub fields_only : (left : List FieldKind) → Going fields start left text rest done → length left ≡ 0 → (fs : List Field) (end : List ℕ) → AreAt start fs → EndsAt 32 end → text ≡ fields_text fs ++ end → (done ≡ fs) × (rest ≡ end)
  fields_only [] g e fs end f u t = all_only fields start [] text rest done g (λ a h behind x. h) fs end (are_fields start fs f) u (t ∙ ap (λ l. l ++ end) (sym (fields_spelled start fs)))
  fields_only (k ∷ left) g e fs end f u t = absurd (omega (arith, e))

-- ---- variables
abbrev pub names : Items (Unit {0}) VarName
names = record {
  stop = 32;
  mark = λ s. 32 ∷ [];
  next = λ s. s;
  text = variable_text;
  Fits = λ s n. number n ≤ MOST_NUMBER;
  Done = λ s. Unit {0};
  End = λ end. end ≡ [];
  plain = λ s n h. high-blank (variable_text n) (name-high n h);
  same = λ s m n p q e. same-name m n p q e;
  opens = λ s x. refl;
  ends = λ x e. subst (EndsAt 32) (sym e) tt;
}

pub names_spelled : (ns : List VarName) → text_of names tt ns ≡ names_text ns
unfolding text_of
names_spelled [] = refl
names_spelled (n ∷ ns) = ap (λ t. 32 ∷ (variable_text n ++ t)) (names_spelled ns)

pub are_names : (ns : List VarName) → AreNames ns → All names tt ns
unfolding All
are_names [] h = tt
are_names (n ∷ ns) h = (h.0, are_names ns h.1)

pub named_bytes : (ns : List VarName) → Named ns → AreNames ns
named_bytes [] h = tt
named_bytes (n ∷ ns) h = (h.0, named_bytes ns h.2)

pub variables_are_names : (ns : List VarName) → are_variables ns ≡ true → AreNames ns
variables_are_names ns v = named_bytes ns (named ns v)

module _ (text rest : List ℕ) (done : List VarName) (g : Going names tt tt text rest done) where
  names_refused : ((ns : List VarName) (end : List ℕ) → All names tt ns → end ≡ [] → text ≢ text_of names tt ns ++ end) → (ns : List VarName) → AreNames ns → text ≢ names_text ns
  names_refused none ns f t = none ns [] (are_names ns f) refl (t ∙ sym (names_spelled ns) ∙ sym (append-nil (text_of names tt ns)))

  pub no_blank_more : rest ≢ [] → ((behind : List ℕ) → rest ≢ 32 ∷ behind) → (ns : List VarName) → AreNames ns → text ≢ names_text ns
  no_blank_more more none = names_refused (no_mark names tt tt text rest done g (λ d x. more x) none)

  pub no_name : (behind word next : List ℕ) → rest ≢ [] → rest ≡ 32 ∷ behind → behind ≡ word ++ next → Avoids 32 word → EndsAt 32 next → ((n : VarName) → number n ≤ MOST_NUMBER → word ≢ variable_text n)
      → (ns : List VarName) → AreNames ns → text ≢ names_text ns
  no_name behind word next more r w v u none = names_refused (no_item names tt tt text rest behind word next done g (λ d x. more x) r w v u none)

  pub one_name : (behind word next : List ℕ) (n : VarName) (new : List VarName) → rest ≢ [] → rest ≡ 32 ∷ behind → behind ≡ word ++ next → Avoids 32 word → EndsAt 32 next → number n ≤ MOST_NUMBER → word ≡ variable_text n → new ≡ done ++ n ∷ []
      → Going names tt tt text next new
  one_name behind word next n new more r w v u fits t e = subst (Going names tt tt text next) (sym e) (one_more names tt tt text rest behind word next done n g (λ d x. more x) r w v u fits t)

  pub names_read : rest ≡ [] → text ≡ names_text done
  names_read e = g.spelled ∙ ap (λ l. text_of names tt done ++ l) e ∙ append-nil (text_of names tt done) ∙ names_spelled done

  pub names_only : rest ≡ [] → (ns : List VarName) → AreNames ns → text ≡ names_text ns → done ≡ ns
  names_only e ns f t =
      (all_only names tt tt text rest done g (λ n h behind x. let no_rest : ◌≡◌ {A = List ℕ} [] (32 ∷ behind) = sym e ∙ x in cc) ns [] (are_names ns f) refl
      (t ∙ sym (names_spelled ns) ∙ sym (append-nil (text_of names tt ns)))).0

-- ---- polynomials, of which all but the first stand behind a `;`
abbrev pub IsLater : Bool → Type 0
IsLater true = ⊥
IsLater false = Unit {0}

abbrev pub polys : (ns : List VarName) → are_variables ns ≡ true → Items Bool Polynomial
polys ns valid = record {
  stop = 59;
  mark = poly_mark;
  next = λ s. false;
  text = poly_text ns;
  Fits = λ s p. FitsPoly ns p;
  Done = IsLater;
  End = λ end. end ≡ [];
  plain = λ s p h. poly-semicolon ns p valid h.0 h.1;
  same = λ s p q f g e. same-poly ns p q valid f g e;
  opens = λ s x. refl;
  ends = λ x e. subst (EndsAt 59) (sym e) tt;
}

module _ (ns : List VarName) (valid : are_variables ns ≡ true) where
  more_spelled : (ps : List Polynomial) → text_of (polys ns valid) false ps ≡ more_text ns ps
  unfolding text_of
  more_spelled [] = refl
  more_spelled (p ∷ ps) = ap (λ t. codes "; " ++ (poly_text ns p ++ t)) (more_spelled ps)

  polys_spelled : (ps : List Polynomial) → text_of (polys ns valid) true ps ≡ polys_text ns ps
  unfolding text_of
  polys_spelled [] = refl
  polys_spelled (p ∷ ps) = ap (λ t. 32 ∷ (poly_text ns p ++ t)) (more_spelled ps)

  later_fit : (ps : List Polynomial) → FitPolys ns ps → All (polys ns valid) false ps
  unfolding All
  later_fit [] f = tt
  later_fit (p ∷ ps) f = (f.0, later_fit ps f.1)

  polys_fit : (ps : List Polynomial) → 1 ≤ length ps → FitPolys ns ps → All (polys ns valid) true ps
  unfolding All
  polys_fit [] some f = absurd (omega (arith, some))
  polys_fit (p ∷ ps) some f = (f.0, later_fit ps f.1)

  fit_later : (ps : List Polynomial) → All (polys ns valid) false ps → FitPolys ns ps
  unfolding All
  fit_later [] f = tt
  fit_later (p ∷ ps) f = (f.0, fit_later ps f.1)

  fit_polys : (ps : List Polynomial) → All (polys ns valid) true ps → (1 ≤ length ps) × FitPolys ns ps
  unfolding All
  fit_polys [] f = absurd f
  fit_polys (p ∷ ps) f = (omega arith, (f.0, fit_later ps f.1))

  module _ (first : Bool) (text rest : List ℕ) (done : List Polynomial) (g : Going (polys ns valid) true first text rest done) (go : IsLater first → rest ≢ []) where
    polys_refused : ((ps : List Polynomial) (end : List ℕ) → All (polys ns valid) true ps → end ≡ [] → text ≢ text_of (polys ns valid) true ps ++ end)
        → (ps : List Polynomial) → 1 ≤ length ps → FitPolys ns ps → text ≢ polys_text ns ps
    polys_refused none ps some f t = none ps [] (polys_fit ps some f) refl (t ∙ sym (polys_spelled ps) ∙ sym (append-nil (text_of (polys ns valid) true ps)))

    pub no_poly_mark : ((behind : List ℕ) → rest ≢ poly_mark first ++ behind) → (ps : List Polynomial) → 1 ≤ length ps → FitPolys ns ps → text ≢ polys_text ns ps
    no_poly_mark none = polys_refused (no_mark (polys ns valid) true first text rest done g go none)

    pub no_poly : (behind word next : List ℕ) → rest ≡ poly_mark first ++ behind → behind ≡ word ++ next → Avoids 59 word → EndsAt 59 next → ((p : Polynomial) → FitsPoly ns p → word ≢ poly_text ns p)
        → (ps : List Polynomial) → 1 ≤ length ps → FitPolys ns ps → text ≢ polys_text ns ps
    no_poly behind word next r w v u none = polys_refused (no_item (polys ns valid) true first text rest behind word next done g go r w v u none)

    pub one_poly : (behind word next : List ℕ) (p : Polynomial) (new : List Polynomial) → rest ≡ poly_mark first ++ behind → behind ≡ word ++ next → Avoids 59 word → EndsAt 59 next → FitsPoly ns p → word ≡ poly_text ns p
        → new ≡ done ++ p ∷ [] → Going (polys ns valid) true false text next new
    one_poly behind word next p new r w v u fits t e = subst (Going (polys ns valid) true false text next) (sym e) (one_more (polys ns valid) true first text rest behind word next done p g go r w v u fits t)

  pub polys_read : (text rest : List ℕ) (done : List Polynomial) → Going (polys ns valid) true false text rest done → rest ≡ [] → (1 ≤ length done) × FitPolys ns done × (text ≡ polys_text ns done)
  polys_read text rest done g e =
      let f = fit_polys done (all_fit (polys ns valid) true false text rest done g tt) in
      (f.0, f.1, g.spelled ∙ ap (λ l. text_of (polys ns valid) true done ++ l) e ∙ append-nil (text_of (polys ns valid) true done) ∙ polys_spelled done)

-- The test `same` holds exactly for one polynomial, and is an equivalence.
use Rattle.std.proofs.Common.{◌≡◌, refl, [], ◌∷◌, sym, ◌∙◌, ap, true, false}
use Rattle.std.specs.Cmp.{IsPartialEquivalence, both_ways}
use Rattle.std.specs.Cmp.Derive.{both_true}
use Rattle.std.specs.Ordering.{int_eq, is_eq}
use Rattle.std.specs.declared.cmp.Ordering.{Ordering}
use Rattle.std.specs.declared.cmp.Ordering.TheVariants.{Less, Equal, Greater}
use Rattle.std.proofs.lemmas.Bool.{and_parts}
use Rattle.std.proofs.lemmas.Bool.Decides.{Decides-int_eq}
use Rattle.poly_model.specs.Polynomial.{Polynomial, monomial_cmp}
use Rattle.poly_model.specs.Reduction.{same_entry, same}
use Rattle.poly_model.specs.Values.{monomial_cmp-same, monomial_cmp-self}

equal : (r : Ordering) → is_eq r ≡ true → r ≡ Equal
equal Less e = absurd (let h : false ≡ true = e in cc)
equal Equal e = refl
equal Greater e = absurd (let h : false ≡ true = e in cc)

pub same-is : (p q : Polynomial) → same p q ≡ true → p ≡ q
same-is [] [] t = refl
same-is [] (f ∷ q) t = absurd (let h : false ≡ true = t in cc)
same-is (e ∷ p) [] t = absurd (let h : false ≡ true = t in cc)
same-is ((es, c) ∷ p) ((fs, d) ∷ q) t =
    let parts = and_parts (same_entry (es, c) (fs, d)) (same p q) t in
    let entry = and_parts (is_eq (monomial_cmp es fs)) (int_eq c d) parts.0 in
    let exponents : es ≡ fs = monomial_cmp-same es fs (equal (monomial_cmp es fs) entry.0) in
    let number : c ≡ d = (Decides-int_eq c d).0 entry.1 in
    λ i. (exponents i, number i) ∷ same-is p q parts.1 i

pub same-self : (p : Polynomial) → same p p ≡ true
same-self [] = refl
same-self ((es, c) ∷ p) = both_true (both_true (ap is_eq (monomial_cmp-self es)) ((Decides-int_eq c c).1 refl)) (same-self p)

pub is-same : (p q : Polynomial) → p ≡ q → same p q ≡ true
is-same p q e = ap (same p) (sym e) ∙ same-self p

pub same-laws : IsPartialEquivalence same
same-laws = record {
  symm = λ p q. both_ways _ _ (λ t. is-same q p (sym (same-is p q t))) (λ t. is-same p q (sym (same-is q p t)));
  trans = λ p q r s t. is-same p r (same-is p q s ∙ same-is q r t);
}

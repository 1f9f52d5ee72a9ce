-- The steps of a merge.
use Rattle.std.proofs.Common.{◌≡◌, ◌≢◌, ℕ, ◌≤◌, zero, suc, refl, List, [], ◌∷◌, ◌++◌, length, sym, ◌∙◌, ap, subst, arith, true, false, ◌&&◌, IsTrue, nat_le}
use Rattle.std.specs.Prelude.{ℤ, pos, negsuc, ◌+ℤ◌, unsigned_abs}
use Rattle.std.proofs.lemmas.Bool.Decides.{nat_tests}
use Rattle.std.specs.declared.cmp.Ordering.TheVariants.{Less, Equal, Greater}
use Rattle.poly_model.specs.Polynomial.{Polynomial, monomial_cmp, with_entry, poly_sum, IsDescending}
use Rattle.poly_model.specs.Standard.{entry_of, polynomial_of}
use Rattle.poly_model.specs.declared.term.Term.{Term}
use Rattle.poly_model.specs.declared.limits.TheConstants.{MOST_VARIABLES, MOST_SIZE}
use Rattle.std.specs.Prelude.{◌⊎◌}
use Rattle.std.proofs.Common.{inl, inr}
use Rattle.poly_model.specs.Standard.{are_bounded}
use Rattle.polynomials.specs.Summed.{term_or_none, summed}
use Rattle.std.proofs.lemmas.Bool.{and_parts}
use Rattle.std.specs.Cmp.Derive.{both_true}
use mathlib.Core.Bool.{and-false}
use Rattle.poly_model.proofs.Merge.{add_greater, add_less, add_equal, add_none}
use Rattle.polynomials.proofs.Steps.{map-append, bounded-append, moved, bounded-more, not_le}

le_of : (a b : ℕ) → nat_le a b ≡ true → a ≤ b
le_of a b e = grind (arith, nat_tests)

size_of : (x : Term) (p : Polynomial) → are_bounded (entry_of x ∷ p) ≡ true → unsigned_abs x.coef ≤ MOST_SIZE
size_of x p e = le_of (unsigned_abs x.coef) MOST_SIZE ((and_parts (nat_le (unsigned_abs x.coef) MOST_SIZE) (are_bounded p) e).0)

in-append : (xs ys : List Term) → are_bounded (polynomial_of xs) ≡ true → are_bounded (polynomial_of ys) ≡ true → are_bounded (polynomial_of (xs ++ ys)) ≡ true
in-append xs ys p q = ap are_bounded (map-append xs ys) ∙ bounded-append (polynomial_of xs) (polynomial_of ys) ∙ both_true p q

-- what is out, followed by the sum of what is left, is the sum
pub record Merging (out ra rb : List Term) (sum : Polynomial) : Type 0 where
  pub so_far : polynomial_of out ++ poly_sum (polynomial_of ra) (polynomial_of rb) ≡ sum
  pub out_in : are_bounded (polynomial_of out) ≡ true
  pub a_ordered : IsDescending MOST_VARIABLES (polynomial_of ra)
  pub b_ordered : IsDescending MOST_VARIABLES (polynomial_of rb)
  pub a_in : are_bounded (polynomial_of ra) ≡ true
  pub b_in : are_bounded (polynomial_of rb) ≡ true

pub greater : (out : List Term) (x y : Term) (ra rb : List Term) (sum : Polynomial) → Merging out (x ∷ ra) (y ∷ rb) sum → monomial_cmp x.exps y.exps ≡ Greater
    → Merging (out ++ x ∷ []) ra (y ∷ rb) sum
greater out x y ra rb sum m g = record {
  so_far = moved out x _ ∙ ap (λ l. polynomial_of out ++ l) (sym (add_greater MOST_VARIABLES x.exps y.exps x.coef y.coef (polynomial_of ra) (polynomial_of rb) m.a_ordered m.b_ordered g)) ∙ m.so_far;
  out_in = bounded-more out x m.out_in (size_of x (polynomial_of ra) m.a_in);
  a_ordered = m.a_ordered.3;
  b_ordered = m.b_ordered;
  a_in = (and_parts (nat_le (unsigned_abs x.coef) MOST_SIZE) _ m.a_in).1;
  b_in = m.b_in;
}

pub less : (out : List Term) (x y : Term) (ra rb : List Term) (sum : Polynomial) → Merging out (x ∷ ra) (y ∷ rb) sum → monomial_cmp x.exps y.exps ≡ Less
    → Merging (out ++ y ∷ []) (x ∷ ra) rb sum
less out x y ra rb sum m g = record {
  so_far = moved out y _ ∙ ap (λ l. polynomial_of out ++ l) (sym (add_less MOST_VARIABLES x.exps y.exps x.coef y.coef (polynomial_of ra) (polynomial_of rb) m.a_ordered g)) ∙ m.so_far;
  out_in = bounded-more out y m.out_in (size_of y (polynomial_of rb) m.b_in);
  a_ordered = m.a_ordered;
  b_ordered = m.b_ordered.3;
  a_in = m.a_in;
  b_in = (and_parts (nat_le (unsigned_abs y.coef) MOST_SIZE) _ m.b_in).1;
}

with_some : (e : List ℕ) (c : ℤ) (p : Polynomial) → c ≢ pos 0 → with_entry e c p ≡ (e, c) ∷ p
with_some e (pos zero) p n = absurd (n refl)
with_some e (pos (suc k)) p n = refl
with_some e (negsuc k) p n = refl

joined : (out : List Term) (x y : Term) (ra rb : List Term) (sum : Polynomial) → Merging out (x ∷ ra) (y ∷ rb) sum → monomial_cmp x.exps y.exps ≡ Equal
    → polynomial_of out ++ with_entry y.exps (x.coef +ℤ y.coef) (poly_sum (polynomial_of ra) (polynomial_of rb)) ≡ sum
joined out x y ra rb sum m g = ap (λ l. polynomial_of out ++ l) (sym (add_equal MOST_VARIABLES x.exps y.exps x.coef y.coef (polynomial_of ra) (polynomial_of rb) m.a_ordered g)) ∙ m.so_far

pub equal : (out : List Term) (x y z : Term) (ra rb : List Term) (sum : Polynomial) → Merging out (x ∷ ra) (y ∷ rb) sum → monomial_cmp x.exps y.exps ≡ Equal
    → z.exps ≡ y.exps → z.coef ≡ x.coef +ℤ y.coef → z.coef ≢ pos 0 → unsigned_abs z.coef ≤ MOST_SIZE → Merging (out ++ z ∷ []) ra rb sum
equal out x y z ra rb sum m g same number some size = record {
  so_far =
      moved out z _ ∙ ap (λ l. polynomial_of out ++ l) (sym (with_some z.exps z.coef _ some) ∙ (λ i. with_entry (same i) (number i) (poly_sum (polynomial_of ra) (polynomial_of rb))))
      ∙ joined out x y ra rb sum m g;
  out_in = bounded-more out z m.out_in size;
  a_ordered = m.a_ordered.3;
  b_ordered = m.b_ordered.3;
  a_in = (and_parts (nat_le (unsigned_abs x.coef) MOST_SIZE) _ m.a_in).1;
  b_in = (and_parts (nat_le (unsigned_abs y.coef) MOST_SIZE) _ m.b_in).1;
}

pub gone : (out : List Term) (x y : Term) (ra rb : List Term) (sum : Polynomial) → Merging out (x ∷ ra) (y ∷ rb) sum → monomial_cmp x.exps y.exps ≡ Equal
    → x.coef +ℤ y.coef ≡ pos 0 → Merging out ra rb sum
gone out x y ra rb sum m g none = record {
  so_far = ap (λ c. polynomial_of out ++ with_entry y.exps c (poly_sum (polynomial_of ra) (polynomial_of rb))) (sym none) ∙ joined out x y ra rb sum m g;
  out_in = m.out_in;
  a_ordered = m.a_ordered.3;
  b_ordered = m.b_ordered.3;
  a_in = (and_parts (nat_le (unsigned_abs x.coef) MOST_SIZE) _ m.a_in).1;
  b_in = (and_parts (nat_le (unsigned_abs y.coef) MOST_SIZE) _ m.b_in).1;
}

-- a sum that is too large
pub passes : (out : List Term) (x y : Term) (ra rb : List Term) (sum : Polynomial) → Merging out (x ∷ ra) (y ∷ rb) sum → monomial_cmp x.exps y.exps ≡ Equal
    → (unsigned_abs (x.coef +ℤ y.coef) ≤ MOST_SIZE → ⊥) → are_bounded sum ≡ false
passes out x y ra rb sum m g large =
    let c = x.coef +ℤ y.coef in
    let rest = poly_sum (polynomial_of ra) (polynomial_of rb) in
    let some : c ≢ pos 0 = λ e. large (subst (λ z. unsigned_abs z ≤ MOST_SIZE) (sym e) (le_of 0 MOST_SIZE refl)) in
    ap are_bounded (sym (joined out x y ra rb sum m g))
    ∙ ap (λ l. are_bounded (polynomial_of out ++ l)) (with_some y.exps c rest some)
    ∙ bounded-append (polynomial_of out) ((y.exps, c) ∷ rest)
    ∙ ap (λ b. are_bounded (polynomial_of out) && (b && are_bounded rest)) (not_le (unsigned_abs c) MOST_SIZE large)
    ∙ and-false (are_bounded (polynomial_of out))

pub end_a : (out ra rb : List Term) (sum : Polynomial) → length rb ≡ 0 → Merging out ra rb sum → IsTrue (are_bounded (polynomial_of (out ++ ra))) × (polynomial_of (out ++ ra) ≡ sum)
end_a out ra (y ∷ rb) sum e m = absurd (omega (arith, e))
end_a out ra [] sum e m = (in-append out ra m.out_in m.a_in, map-append out ra ∙ ap (λ l. polynomial_of out ++ l) (sym (add_none MOST_VARIABLES (polynomial_of ra) m.a_ordered)) ∙ m.so_far)

pub end_b : (out ra rb : List Term) (sum : Polynomial) → length ra ≡ 0 → Merging out ra rb sum → IsTrue (are_bounded (polynomial_of (out ++ rb))) × (polynomial_of (out ++ rb) ≡ sum)
end_b out (x ∷ ra) rb sum e m = absurd (omega (arith, e))
end_b out [] rb sum e m = (in-append out rb m.out_in m.b_in, map-append out rb ∙ m.so_far)

-- ---- the same for what is appended
pub start : (a b : List Term) → IsDescending MOST_VARIABLES (polynomial_of a) → IsDescending MOST_VARIABLES (polynomial_of b) → are_bounded (polynomial_of a) ≡ true → are_bounded (polynomial_of b) ≡ true
    → (out : List Term) → out ≡ [] → Merging out a b (poly_sum (polynomial_of a) (polynomial_of b))
start a b ha hb ba bb out e = subst (λ o. Merging o a b (poly_sum (polynomial_of a) (polynomial_of b))) (sym e) record { so_far = refl; out_in = refl; a_ordered = ha; b_ordered = hb; a_in = ba; b_in = bb }

pub shaped : (out new ra rb sa sb : List Term) (sum : Polynomial) → new ≡ out → ra ≡ sa → rb ≡ sb → Merging out ra rb sum → Merging new sa sb sum
shaped out new ra rb sa sb sum e f g m =
    subst (λ o. Merging o sa sb sum) (sym e) (subst (λ l. Merging out l sb sum) f (subst (λ l. Merging out ra l sum) g m))

pub both_equal : (out : List Term) (x y : Term) (ra rb : List Term) (sum : Polynomial) → Merging out (x ∷ ra) (y ∷ rb) sum → monomial_cmp x.exps y.exps ≡ Equal
    → unsigned_abs (x.coef +ℤ y.coef) ≤ MOST_SIZE → Merging (out ++ summed x y) ra rb sum
both_equal out x y ra rb sum m g size = by_sum (x.coef +ℤ y.coef) refl
  where
    nothing : (l : List Term) → l ++ [] ≡ l
    nothing [] = refl
    nothing (t ∷ l) = ap (λ k. t ∷ k) (nothing l)

    by_sum : (c : ℤ) → x.coef +ℤ y.coef ≡ c → Merging (out ++ term_or_none y.exps (x.coef +ℤ y.coef)) ra rb sum
    by_sum (pos zero) e = subst (λ c. Merging (out ++ term_or_none y.exps c) ra rb sum) (sym e) (subst (λ l. Merging l ra rb sum) (sym (nothing out)) (gone out x y ra rb sum m g e))
    by_sum (pos (suc n)) e = subst (λ c. Merging (out ++ term_or_none y.exps c) ra rb sum) (sym e) (equal out x y record { coef = pos (suc n); exps = y.exps } ra rb sum m g refl (sym e) (λ z. cc) (subst (λ c. unsigned_abs c ≤ MOST_SIZE) e size))
    by_sum (negsuc n) e = subst (λ c. Merging (out ++ term_or_none y.exps c) ra rb sum) (sym e) (equal out x y record { coef = negsuc n; exps = y.exps } ra rb sum m g refl (sym e) (λ z. cc) (subst (λ c. unsigned_abs c ≤ MOST_SIZE) e size))

-- one of the lists is at its end
pub ending : (out ra rb : List Term) (sum : Polynomial) → (length ra ≡ 0) ⊎ (length rb ≡ 0) → Merging out ra rb sum → (are_bounded (polynomial_of ((out ++ ra) ++ rb)) ≡ true) × (polynomial_of ((out ++ ra) ++ rb) ≡ sum)
ending out ra rb sum (inl e) m =
    let same : (out ++ ra) ++ rb ≡ out ++ rb = ap (λ l. (out ++ l) ++ rb) (empty ra e) ∙ ap (λ l. l ++ rb) (nothing out) in
    let h = end_b out ra rb sum e m in (ap (λ l. are_bounded (polynomial_of l)) same ∙ h.0, ap polynomial_of same ∙ h.1)
  where
    nothing : (l : List Term) → l ++ [] ≡ l
    nothing [] = refl
    nothing (t ∷ l) = ap (λ k. t ∷ k) (nothing l)

    empty : (l : List Term) → length l ≡ 0 → l ≡ []
    empty [] e = refl
    empty (t ∷ l) e = absurd (omega (arith, e))
ending out ra rb sum (inr e) m =
    let same : (out ++ ra) ++ rb ≡ out ++ ra = ap (λ l. (out ++ ra) ++ l) (empty rb e) ∙ nothing (out ++ ra) in
    let h = end_a out ra rb sum e m in (ap (λ l. are_bounded (polynomial_of l)) same ∙ h.0, ap polynomial_of same ∙ h.1)
  where
    nothing : (l : List Term) → l ++ [] ≡ l
    nothing [] = refl
    nothing (t ∷ l) = ap (λ k. t ∷ k) (nothing l)

    empty : (l : List Term) → length l ≡ 0 → l ≡ []
    empty [] e = refl
    empty (t ∷ l) e = absurd (omega (arith, e))

pub summed-length : (x y : Term) → length (summed x y) ≤ 1
summed-length x y = short y.exps (x.coef +ℤ y.coef)
  where
    short : (es : List ℕ) (c : ℤ) → length (term_or_none es c) ≤ 1
    short es (pos zero) = omega arith
    short es (pos (suc n)) = omega arith
    short es (negsuc n) = omega arith

-- Polynomials divided by powers of variables, and variables that divide, are in order, within the limits, and over the same
-- variables.
use Rattle.std.proofs.Common.{◌≡◌, ℕ, ◌+◌, ◌-◌, ◌<◌, ◌≤◌, zero, suc, List, [], ◌∷◌, drop, length, get_or, set, replicate, refl, sym, ◌∙◌, ap, subst, arith, Bool, true, false, ◌&&◌, inl, inr, ◌⊎◌}
use Rattle.std.specs.Prelude.{pos, ◌==◌, nat_eq, nat_le, nat_lt, if◌then◌else◌}
use Rattle.std.specs.List.{list_all}
use Rattle.std.specs.Cmp.Derive.{both_true}
use Rattle.std.specs.Ordering.{nat_cmp, ordering_then}
use Rattle.std.proofs.Math.ListN.{length-set}
use Rattle.std.proofs.lemmas.Bool.{and_parts, eqb-true, leb-true, le-leb, ltb-true, ltb-false, lt-ltb}
use Rattle.poly_model.specs.Polynomial.{Polynomial, IsAbove, IsDescending, monomial_cmp, is_over, poly_variable}
use Rattle.poly_model.specs.Standard.{is_standard, are_low, is_bounded, are_bounded}
use Rattle.poly_model.specs.Powers.{low_at, is_divided, lowered, stripped, variable_in, one_monomial, stripped_by, without_variables}
use Rattle.poly_model.specs.declared.limits.TheConstants.{MOST_VARIABLES, MOST_DEGREE, MOST_TERMS, MOST_SIZE}
use Rattle.poly_model.proofs.Adding.{low-at}
use Rattle.poly_model.proofs.Ordered.{descending-variable}
use Rattle.poly_model.proofs.Over.{are_over, over-set, none-at}
use Rattle.poly_model.proofs.Parts.{nat_cmp-plus}
use Rattle.poly_model.proofs.Powers.{AllReach, low-reached, lowered-length, divided-low, divided-there}
use Rattle.poly_model.proofs.Standards.{set-low}
use Rattle.poly_model.proofs.Within.{Within, within-of, standard-of, all_low}

-- ---- in order
lowered-place : (x k : ℕ) (es fs : List ℕ) → k ≤ get_or es x 0 → k ≤ get_or fs x 0
    → monomial_cmp (set es x (get_or es x 0 - k)) (set fs x (get_or fs x 0 - k)) ≡ monomial_cmp es fs
lowered-place x k [] [] a b = refl
lowered-place zero k [] (f ∷ fs) a b = refl
lowered-place (suc x) k [] (f ∷ fs) a b = refl
lowered-place zero k (g ∷ es) [] a b = refl
lowered-place (suc x) k (g ∷ es) [] a b = refl
lowered-place zero k (g ∷ es) (f ∷ fs) a b =
    ap (ordering_then (monomial_cmp es fs))
    (sym (nat_cmp-plus (g - k) (f - k) k)
    ∙ (λ i. nat_cmp ((let e : (g - k) + k ≡ g = omega (arith, a) in e) i) ((let e : (f - k) + k ≡ f = omega (arith, b) in e) i)))
lowered-place (suc x) k (g ∷ es) (f ∷ fs) a b = ap (λ r. ordering_then r (nat_cmp g f)) (lowered-place x k es fs a b)

above-lowered : (x k : ℕ) (es : List ℕ) (p : Polynomial) → k ≤ get_or es x 0 → AllReach x k p → IsAbove es p → IsAbove (set es x (get_or es x 0 - k)) (lowered x k p)
above-lowered x k es [] h r a = tt
above-lowered x k es ((fs, c) ∷ p) h r a = (lowered-place x k es fs h r.0 ∙ a.0, above-lowered x k es p h r.1 a.1)

descending-lowered : (n x k : ℕ) (p : Polynomial) → AllReach x k p → IsDescending n p → IsDescending n (lowered x k p)
descending-lowered n x k [] r h = tt
descending-lowered n x k ((es, c) ∷ p) r h =
    (length-set es x _ ∙ h.0, h.1, above-lowered x k es p r.0 r.1 h.2, descending-lowered n x k p r.1 h.3)

-- ---- within the limits
lowered-bounded : (i k : ℕ) (p : Polynomial) → are_bounded p ≡ true → are_bounded (lowered i k p) ≡ true
lowered-bounded i k [] b = refl
lowered-bounded i k ((es, c) ∷ p) b =
    let parts = and_parts (is_bounded c) (are_bounded p) b in both_true parts.0 (lowered-bounded i k p parts.1)

lowered-low : (i k : ℕ) (p : Polynomial) → all_low p ≡ true → all_low (lowered i k p) ≡ true
lowered-low i k [] b = refl
lowered-low i k ((es, c) ∷ p) b =
    let parts = and_parts (are_low es) (all_low p) b in
    both_true (set-low es i (get_or es i 0 - k) parts.0 (let l = low-at es i parts.0 in omega (arith, l))) (lowered-low i k p parts.1)

pub stripped-within : (i : ℕ) (p : Polynomial) → Within p → Within (stripped i p)
stripped-within i p w = record {
  descending = descending-lowered MOST_VARIABLES i (low_at i p) p (low-reached i p) w.descending;
  bounded = lowered-bounded i (low_at i p) p w.bounded;
  low = lowered-low i (low_at i p) p w.low;
  short = ap (λ n. nat_le n MOST_TERMS) (lowered-length i (low_at i p) p) ∙ w.short;
}

stripped_by-within : (i : ℕ) (es : List ℕ) (p : Polynomial) → Within p → Within (stripped_by i es p)
stripped_by-within i [] p w = w
stripped_by-within i (e ∷ es) p w = stripped_by-within (suc i) es (if e == 0 then p else stripped i p) (here (e == 0))
  where
    here : (b : Bool) → Within (if b then p else stripped i p)
    here true = w
    here false = stripped-within i p w

pub without_variables-within : (q p : Polynomial) → Within p → Within (without_variables q p)
without_variables-within q p w = stripped_by-within 0 (one_monomial q) p w

one-low : (n i : ℕ) → are_low (set (replicate n 0) i 1) ≡ true
one-low n i = set-low (replicate n 0) i 1 (none-low n) (omega arith)
  where
    none-low : (n : ℕ) → are_low (replicate n 0) ≡ true
    none-low zero = refl
    none-low (suc n) = both_true (le-leb 0 MOST_DEGREE (omega arith)) (none-low n)

pub variable-within : (i : ℕ) → Within (poly_variable MOST_VARIABLES i)
variable-within i = record {
  descending = descending-variable MOST_VARIABLES i;
  bounded = both_true (le-leb 1 MOST_SIZE (omega arith)) refl;
  low = both_true (one-low MOST_VARIABLES i) refl;
  short = le-leb 1 MOST_TERMS (omega arith);
}

-- the variable at a place among the exponents of a polynomial within the limits
pub variable_in-standard : (p : Polynomial) (i : ℕ) → is_divided i p ≡ true → Within p → is_standard (variable_in p i) ≡ true
variable_in-standard [] i h w = cc
variable_in-standard ((es, c) ∷ p) i h w =
    standard-of (variable_in ((es, c) ∷ p) i) (subst (λ k. Within (poly_variable k i)) (sym w.descending.0) (variable-within i))

-- ---- over the same variables
over-lowered_monomial : (n i k : ℕ) (es : List ℕ) → are_over n es ≡ true → are_over n (set es i (get_or es i 0 - k)) ≡ true
over-lowered_monomial n i k [] a = a
over-lowered_monomial zero zero k (e ∷ es) a =
    let parts = and_parts (nat_eq e 0) (are_over 0 es) a in
    both_true (ap (λ (x : ℕ). nat_eq x 0) (let z = eqb-true e 0 parts.0 in let q : e - k ≡ 0 = omega (arith, z) in q)) parts.1
over-lowered_monomial zero (suc i) k (e ∷ es) a =
    let parts = and_parts (nat_eq e 0) (are_over 0 es) a in both_true parts.0 (over-lowered_monomial zero i k es parts.1)
over-lowered_monomial (suc n) zero k (e ∷ es) a = a
over-lowered_monomial (suc n) (suc i) k (e ∷ es) a = over-lowered_monomial n i k es a

pub over-lowered : (n i k : ℕ) (p : Polynomial) → is_over n p ≡ true → is_over n (lowered i k p) ≡ true
over-lowered n i k [] a = refl
over-lowered n i k ((es, c) ∷ p) a =
    let parts = and_parts (are_over n es) (is_over n p) a in both_true (over-lowered_monomial n i k es parts.0) (over-lowered n i k p parts.1)

over-stripped_by : (n i : ℕ) (es : List ℕ) (p : Polynomial) → is_over n p ≡ true → is_over n (stripped_by i es p) ≡ true
over-stripped_by n i [] p a = a
over-stripped_by n i (e ∷ es) p a = over-stripped_by n (suc i) es (if e == 0 then p else stripped i p) (here (e == 0))
  where
    here : (b : Bool) → is_over n (if b then p else stripped i p) ≡ true
    here true = a
    here false = over-lowered n i (low_at i p) p a

pub over-without_variables : (n : ℕ) (q p : Polynomial) → is_over n p ≡ true → is_over n (without_variables q p) ≡ true
over-without_variables n q p a = over-stripped_by n 0 (one_monomial q) p a

-- a variable that divides a polynomial is one of its variables
over-none : (n m : ℕ) → are_over n (replicate m 0) ≡ true
over-none zero zero = refl
over-none zero (suc m) = both_true refl (over-none zero m)
over-none (suc n) zero = refl
over-none (suc n) (suc m) = over-none n m

pub over-variable_in : (n : ℕ) (p : Polynomial) (i : ℕ) → is_divided i p ≡ true → is_over n p ≡ true → is_over n (variable_in p i) ≡ true
over-variable_in n [] i h a = cc
over-variable_in n ((es, c) ∷ p) i h a =
    let parts = and_parts (are_over n es) (is_over n p) a in
    let low = divided-low i ((es, c) ∷ p) h in
    let reached = (low-reached i ((es, c) ∷ p)).0 in
    both_true (over-set n i 1 (replicate (length es) 0) (there (nat_lt i n) refl (none-at n i es) parts.0 (omega (arith, low, reached))) (over-none n (length es))) refl
  where
    there : (b : Bool) → nat_lt i n ≡ b → (n ≤ i → are_over n es ≡ true → ◌≡◌ {A = ℕ} (get_or es i 0) 0) → are_over n es ≡ true → 1 ≤ get_or es i 0 → i < n
    there true e none o h = ltb-true i n e
    there false e none o h = absurd (let z = none (ltb-false i n e) o in omega (arith, z, h))

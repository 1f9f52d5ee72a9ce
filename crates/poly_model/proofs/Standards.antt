-- What arithmetic gives of polynomials within the limits is within them: coefficients, products with powers of a variable,
-- negatives, primitive parts and reductions.
use Rattle.std.proofs.Common.{◌≡◌, ℕ, ◌+◌, ◌-◌, ◌≤◌, zero, suc, List, [], ◌∷◌, length, get_or, set, refl, ◌∙◌, ap, subst, arith, Bool, true, false, ◌&&◌, cond}
use Rattle.std.specs.Prelude.{ℤ, pos, negsuc, neg_ℤ, ◌==◌, Result, Ok, Err, nat_le, unsigned_abs, ◌/◌}
use Rattle.std.specs.Cmp.Derive.{both_true}
use Rattle.std.proofs.Math.Nat.{div-le_self}
use Rattle.std.proofs.lemmas.Bool.{and_parts, leb-true, le-leb}
use Rattle.poly_model.specs.Polynomial.{Polynomial, poly_negative}
use Rattle.poly_model.specs.Standard.{is_standard, are_low, is_bounded, are_bounded}
use Rattle.poly_model.specs.Content.{primitive_part, entries_divided, begins_negative, coefficients_gcd, signed_by, quotient_of}
use Rattle.poly_model.specs.Reduction.{degree_at, coefficient_at, without_degree, shifted, main_place, main_degree, initial_of, tail_of, factor_of, parts_of}
use Rattle.poly_model.specs.Bounded.{degrees_fit, bounded_rows, bounded_difference, bounded_shift, and_then, bounded_cross, bounded_reduction}
use Rattle.poly_model.specs.declared.limits.TheConstants.{MOST_VARIABLES, MOST_DEGREE, MOST_SIZE, MOST_TERMS}
use Rattle.poly_model.specs.declared.limits.Limit.{Limit}
use Rattle.poly_model.specs.declared.limits.Limit.TheVariants.{Degree}
use Rattle.poly_model.proofs.Ordered.{descending-negative, descending-primitive_part}
use Rattle.poly_model.proofs.Within.{Within, within-of, standard-of, all_low, bounded_product-standard, bounded_sum-standard}
use Rattle.poly_model.proofs.Adding.{low-at}
use Rattle.poly_model.proofs.Parts.{descending-part, descending-without, descending-shifted}
use Rattle.poly_model.proofs.Reductions.{then-is, ok-is}

-- ---- parts
pub set-low : (es : List ℕ) (i k : ℕ) → are_low es ≡ true → k ≤ MOST_DEGREE → are_low (set es i k) ≡ true
set-low [] i k l h = refl
set-low (e ∷ es) zero k l h = both_true (le-leb k MOST_DEGREE h) ((and_parts (nat_le e MOST_DEGREE) _ l).1)
set-low (e ∷ es) (suc i) k l h = both_true ((and_parts (nat_le e MOST_DEGREE) (are_low es) l).0) (set-low es i k ((and_parts (nat_le e MOST_DEGREE) _ l).1) h)

coefficient-bounded : (i d : ℕ) (p : Polynomial) → are_bounded p ≡ true → are_bounded (coefficient_at i d p) ≡ true
coefficient-bounded i d [] b = refl
coefficient-bounded i d ((es, c) ∷ p) b =
    elim (get_or es i 0 == d) as (λ t. are_bounded (cond t ((set es i 0, c) ∷ coefficient_at i d p) (coefficient_at i d p)) ≡ true) [
      | true ↦ both_true ((and_parts (is_bounded c) (are_bounded p) b).0) (coefficient-bounded i d p ((and_parts (is_bounded c) _ b).1))
      | false ↦ coefficient-bounded i d p ((and_parts (is_bounded c) _ b).1)
    ]

coefficient-low : (i d : ℕ) (p : Polynomial) → all_low p ≡ true → all_low (coefficient_at i d p) ≡ true
coefficient-low i d [] b = refl
coefficient-low i d ((es, c) ∷ p) b =
    elim (get_or es i 0 == d) as (λ t. all_low (cond t ((set es i 0, c) ∷ coefficient_at i d p) (coefficient_at i d p)) ≡ true) [
      | true ↦ both_true (set-low es i 0 ((and_parts (are_low es) (all_low p) b).0) (omega arith)) (coefficient-low i d p ((and_parts (are_low es) _ b).1))
      | false ↦ coefficient-low i d p ((and_parts (are_low es) _ b).1)
    ]

coefficient-short : (i d : ℕ) (p : Polynomial) → length (coefficient_at i d p) ≤ length p
coefficient-short i d [] = omega arith
coefficient-short i d ((es, c) ∷ p) =
    elim (get_or es i 0 == d) as (λ t. length (cond t ((set es i 0, c) ∷ coefficient_at i d p) (coefficient_at i d p)) ≤ suc (length p)) [
      | true ↦ (let h = coefficient-short i d p in omega (arith, h))
      | false ↦ (let h = coefficient-short i d p in omega (arith, h))
    ]

shorter : (a b : ℕ) → a ≤ b → nat_le b MOST_TERMS ≡ true → nat_le a MOST_TERMS ≡ true
shorter a b h e = le-leb a MOST_TERMS (let l = leb-true b MOST_TERMS e in omega (arith, h, l))

pub coefficient-within : (i d : ℕ) (p : Polynomial) → Within p → Within (coefficient_at i d p)
coefficient-within i d p w = record {
  descending = descending-part MOST_VARIABLES i d p w.descending;
  bounded = coefficient-bounded i d p w.bounded;
  low = coefficient-low i d p w.low;
  short = shorter _ (length p) (coefficient-short i d p) w.short;
}

-- ---- powers of a variable that the entries do not have
shifted-bounded : (i k : ℕ) (p : Polynomial) → are_bounded p ≡ true → are_bounded (shifted i k p) ≡ true
shifted-bounded i k [] b = refl
shifted-bounded i k ((es, c) ∷ p) b = both_true ((and_parts (is_bounded c) (are_bounded p) b).0) (shifted-bounded i k p ((and_parts (is_bounded c) _ b).1))

shifted-length : (i k : ℕ) (p : Polynomial) → length (shifted i k p) ≡ length p
shifted-length i k [] = refl
shifted-length i k ((es, c) ∷ p) = ap suc (shifted-length i k p)

gone-at : (es : List ℕ) (i : ℕ) → get_or (set es i 0) i 0 ≡ 0
gone-at [] i = refl
gone-at (e ∷ es) zero = refl
gone-at (e ∷ es) (suc i) = gone-at es i

shifted-low : (i k d : ℕ) (p : Polynomial) → k ≤ MOST_DEGREE → all_low p ≡ true → all_low (shifted i k (coefficient_at i d p)) ≡ true
shifted-low i k d [] h b = refl
shifted-low i k d ((es, c) ∷ p) h b =
    elim (get_or es i 0 == d) as (λ t. all_low (shifted i k (cond t ((set es i 0, c) ∷ coefficient_at i d p) (coefficient_at i d p))) ≡ true) [
      | true ↦
          both_true (set-low (set es i 0) i (get_or (set es i 0) i 0 + k) (set-low es i 0 ((and_parts (are_low es) (all_low p) b).0) (omega arith)) (let z = gone-at es i in omega (arith, z, h)))
          (shifted-low i k d p h ((and_parts (are_low es) _ b).1))
      | false ↦ shifted-low i k d p h ((and_parts (are_low es) _ b).1)
    ]

pub degree-low : (i : ℕ) (p : Polynomial) → all_low p ≡ true → degree_at i p ≤ MOST_DEGREE
degree-low i [] b = omega arith
degree-low i ((es, c) ∷ p) b = let f = low-at es i ((and_parts (are_low es) (all_low p) b).0) in let r = degree-low i p ((and_parts (are_low es) _ b).1) in omega (arith, f, r)

pub initial-within : (f : Polynomial) → Within f → Within (initial_of f)
initial-within f w = coefficient-within (main_place f) (main_degree f) f w

pub factor-within : (g f : Polynomial) → Within g → Within (factor_of g f)
factor-within g f w =
    let i = main_place f in
    let e = degree_at i g in
    let k = e - main_degree f in
    let part = coefficient-within i e g w in
    record {
      descending = descending-shifted MOST_VARIABLES i k (coefficient_at i e g) part.descending;
      bounded = shifted-bounded i k (coefficient_at i e g) part.bounded;
      low = shifted-low i k e g (let d = degree-low i g w.low in omega (arith, d)) w.low;
      short = ap (λ n. nat_le n MOST_TERMS) (shifted-length i k (coefficient_at i e g)) ∙ part.short;
    }

-- ---- negatives and primitive parts
abs-neg : (c : ℤ) → unsigned_abs (neg_ℤ c) ≡ unsigned_abs c
abs-neg (pos zero) = refl
abs-neg (pos (suc n)) = refl
abs-neg (negsuc n) = refl

negative-bounded : (p : Polynomial) → are_bounded (poly_negative p) ≡ are_bounded p
negative-bounded [] = refl
negative-bounded ((es, c) ∷ p) = λ i. nat_le (abs-neg c i) MOST_SIZE && negative-bounded p i

negative-low : (p : Polynomial) → all_low (poly_negative p) ≡ all_low p
negative-low [] = refl
negative-low ((es, c) ∷ p) = ap (λ b. are_low es && b) (negative-low p)

negative-length : (p : Polynomial) → length (poly_negative p) ≡ length p
negative-length [] = refl
negative-length ((es, c) ∷ p) = ap suc (negative-length p)

pub negative-within : (p : Polynomial) → Within p → Within (poly_negative p)
negative-within p w = record {
  descending = descending-negative MOST_VARIABLES p w.descending;
  bounded = negative-bounded p ∙ w.bounded;
  low = negative-low p ∙ w.low;
  short = ap (λ n. nat_le n MOST_TERMS) (negative-length p) ∙ w.short;
}

abs-divided : (t : Bool) (c : ℤ) (m : ℕ) → unsigned_abs (signed_by t (quotient_of c m)) ≤ unsigned_abs c
abs-divided true (pos a) m = let d = div-le_self a m in let e = abs-neg (pos (a / m)) in omega (arith, d, e)
abs-divided false (pos a) m = div-le_self a m
abs-divided true (negsuc a) m = let d = div-le_self (suc a) m in let e = abs-neg (pos (suc a / m)) in let f = abs-neg (neg_ℤ (pos (suc a / m))) in omega (arith, d, e, f)
abs-divided false (negsuc a) m = let d = div-le_self (suc a) m in let e = abs-neg (pos (suc a / m)) in omega (arith, d, e)

divided-bounded : (t : Bool) (m : ℕ) (p : Polynomial) → are_bounded p ≡ true → are_bounded (entries_divided t m p) ≡ true
divided-bounded t m [] b = refl
divided-bounded t m ((es, c) ∷ p) b =
    both_true (le-leb _ MOST_SIZE (let h = abs-divided t c m in let l = leb-true (unsigned_abs c) MOST_SIZE ((and_parts (is_bounded c) (are_bounded p) b).0) in omega (arith, h, l)))
    (divided-bounded t m p ((and_parts (is_bounded c) _ b).1))

divided-low : (t : Bool) (m : ℕ) (p : Polynomial) → all_low (entries_divided t m p) ≡ all_low p
divided-low t m [] = refl
divided-low t m ((es, c) ∷ p) = ap (λ b. are_low es && b) (divided-low t m p)

divided-length : (t : Bool) (m : ℕ) (p : Polynomial) → length (entries_divided t m p) ≡ length p
divided-length t m [] = refl
divided-length t m ((es, c) ∷ p) = ap suc (divided-length t m p)

pub primitive-within : (p : Polynomial) → Within p → Within (primitive_part p)
primitive-within p w = record {
  descending = descending-primitive_part MOST_VARIABLES p w.descending;
  bounded = divided-bounded (begins_negative p) (coefficients_gcd p) p w.bounded;
  low = divided-low (begins_negative p) (coefficients_gcd p) p ∙ w.low;
  short = ap (λ n. nat_le n MOST_TERMS) (divided-length (begins_negative p) (coefficients_gcd p) p) ∙ w.short;
}

-- ---- the reduction
product-standard : (P Q r : Polynomial) → Within P → Within Q → degrees_fit P Q ≡ true → bounded_rows P Q [] ≡ Ok r → is_standard r ≡ true
product-standard P Q r p q fit e =
    bounded_product-standard P Q r (standard-of P p) (standard-of Q q) (ap (λ b. elim b as (λ _. Result Polynomial Limit) [ false ↦ Err Degree | true ↦ bounded_rows P Q [] ]) fit ∙ e)

pub bounded_cross-standard : (a p b q t : Polynomial) → Within a → Within p → Within b → Within q → bounded_cross a p b q ≡ Ok t → is_standard t ≡ true
bounded_cross-standard a p b q t ha hp hb hq is =
    elim (degrees_fit a p && degrees_fit b q) as (λ w. (degrees_fit a p && degrees_fit b q) ≡ w → elim w as (λ _. Result Polynomial Limit) [
      | false ↦ Err Degree
      | true ↦ and_then (bounded_rows a p []) (λ first. and_then (bounded_rows b q []) (λ second. bounded_difference first second))
    ] ≡ Ok t → is_standard t ≡ true) [
      | false ↦ λ d e. absurd (cc)
      | true ↦ λ d e.
          let fit = and_parts (degrees_fit a p) (degrees_fit b q) d in
          let one = then-is _ _ t e in
          let two = then-is _ _ t one.2 in
          let first = product-standard a p one.0 ha hp fit.0 one.1 in
          let second = product-standard b q two.0 hb hq fit.1 two.1 in
          bounded_sum-standard one.0 (poly_negative two.0) t first (standard-of _ (negative-within two.0 (within-of two.0 second))) two.2
    ] refl is

pub parts-standard : (t : Polynomial) → is_standard t ≡ true → is_standard (parts_of t).1 ≡ true
parts-standard t s = standard-of (primitive_part t) (primitive-within t (within-of t s))

pub bounded_reduction-standard : (g f : Polynomial) (r : ℤ × Polynomial) → Within g → Within f → bounded_reduction g f ≡ Ok r → is_standard r.1 ≡ true
bounded_reduction-standard g f r hg hf is =
    let cross = then-is _ _ r is in
    let t = bounded_cross-standard (initial_of f) g (factor_of g f) f cross.0 (initial-within f hf) hg (factor-within g f hg) hf cross.1 in
    subst (λ (q : ℤ × Polynomial). is_standard q.1 ≡ true) (ok-is (parts_of cross.0) r cross.2) (parts-standard cross.0 t)

-- ---- the other terms, and products with a power that fit
without-bounded : (i d : ℕ) (p : Polynomial) → are_bounded p ≡ true → are_bounded (without_degree i d p) ≡ true
without-bounded i d [] b = refl
without-bounded i d ((es, c) ∷ p) b =
    let parts = and_parts (is_bounded c) (are_bounded p) b in
    elim (get_or es i 0 == d) as (λ t. are_bounded (cond t (without_degree i d p) ((es, c) ∷ without_degree i d p)) ≡ true) [
      | true ↦ without-bounded i d p parts.1
      | false ↦ both_true parts.0 (without-bounded i d p parts.1)
    ]

without-low : (i d : ℕ) (p : Polynomial) → all_low p ≡ true → all_low (without_degree i d p) ≡ true
without-low i d [] b = refl
without-low i d ((es, c) ∷ p) b =
    let parts = and_parts (are_low es) (all_low p) b in
    elim (get_or es i 0 == d) as (λ t. all_low (cond t (without_degree i d p) ((es, c) ∷ without_degree i d p)) ≡ true) [
      | true ↦ without-low i d p parts.1
      | false ↦ both_true parts.0 (without-low i d p parts.1)
    ]

without-short : (i d : ℕ) (p : Polynomial) → length (without_degree i d p) ≤ length p
without-short i d [] = omega arith
without-short i d ((es, c) ∷ p) =
    elim (get_or es i 0 == d) as (λ t. length (cond t (without_degree i d p) ((es, c) ∷ without_degree i d p)) ≤ suc (length p)) [
      | true ↦ (let h = without-short i d p in omega (arith, h))
      | false ↦ (let h = without-short i d p in omega (arith, h))
    ]

pub without-within : (i d : ℕ) (p : Polynomial) → Within p → Within (without_degree i d p)
without-within i d p w = record {
  descending = descending-without MOST_VARIABLES i d p w.descending;
  bounded = without-bounded i d p w.bounded;
  low = without-low i d p w.low;
  short = shorter _ (length p) (without-short i d p) w.short;
}

pub tail-within : (p : Polynomial) → Within p → Within (tail_of p)
tail-within p w = without-within (main_place p) (main_degree p) p w

shifted-fit : (i k : ℕ) (p : Polynomial) → degree_at i p + k ≤ MOST_DEGREE → all_low p ≡ true → all_low (shifted i k p) ≡ true
shifted-fit i k [] h b = refl
shifted-fit i k ((es, c) ∷ p) h b =
    let parts = and_parts (are_low es) (all_low p) b in
    both_true (set-low es i (get_or es i 0 + k) parts.0 (omega (arith, h))) (shifted-fit i k p (omega (arith, h)) parts.1)

pub shifted-within : (i k : ℕ) (p : Polynomial) → degree_at i p + k ≤ MOST_DEGREE → Within p → Within (shifted i k p)
shifted-within i k p h w = record {
  descending = descending-shifted MOST_VARIABLES i k p w.descending;
  bounded = shifted-bounded i k p w.bounded;
  low = shifted-fit i k p h w.low;
  short = ap (λ n. nat_le n MOST_TERMS) (shifted-length i k p) ∙ w.short;
}

pub bounded_shift-is : (i k : ℕ) (p r : Polynomial) → bounded_shift i k p ≡ Ok r → (degree_at i p + k ≤ MOST_DEGREE) × (r ≡ shifted i k p)
bounded_shift-is i k p r is =
    elim (nat_le (degree_at i p + k) MOST_DEGREE) as (λ b. nat_le (degree_at i p + k) MOST_DEGREE ≡ b
    → elim b as (λ _. Result Polynomial Limit) [ false ↦ Err Degree | true ↦ Ok (shifted i k p) ] ≡ Ok r → (degree_at i p + k ≤ MOST_DEGREE) × (r ≡ shifted i k p)) [
      | false ↦ λ t e. absurd (cc)
      | true ↦ λ t e. (leb-true _ MOST_DEGREE t, cc)
    ] refl is

pub bounded_shift-standard : (i k : ℕ) (p r : Polynomial) → is_standard p ≡ true → bounded_shift i k p ≡ Ok r → is_standard r ≡ true
bounded_shift-standard i k p r s e =
    let is = bounded_shift-is i k p r e in
    ap is_standard is.1 ∙ standard-of (shifted i k p) (shifted-within i k p is.0 (within-of p s))

pub bounded_difference-standard : (p q r : Polynomial) → is_standard p ≡ true → is_standard q ≡ true → bounded_difference p q ≡ Ok r → is_standard r ≡ true
bounded_difference-standard p q r sp sq e = bounded_sum-standard p (poly_negative q) r sp (standard-of _ (negative-within q (within-of q sq))) e

-- Classes and degrees: the initial is of a lower class, and a class tells which variables occur.
use Rattle.std.proofs.Common.{◌≡◌, ℕ, ◌≤◌, max, zero, suc, List, [], ◌∷◌, set, get_or, drop, refl, sym, ◌∙◌, ap, subst, arith, Bool, true, false, cond, inl, inr, ◌⊎◌}
use Rattle.std.specs.Prelude.{◌==◌, if◌then◌else◌, nat_eq, nat_le}
use Rattle.std.specs.List.{list_all}
use Rattle.std.specs.Cmp.{both_ways}
use Rattle.std.specs.Cmp.Derive.{both_true}
use Rattle.std.proofs.lemmas.Bool.{and_parts, eqb-true, eqb-false, leb-true, le-leb}
use Rattle.poly_model.specs.Polynomial.{Polynomial, is_over}
use Rattle.poly_model.specs.Content.{entries_divided, begins_negative, coefficients_gcd}
use Rattle.poly_model.specs.Reduction.{degree_at, monomial_class, class_of, coefficient_at, main_place, main_degree, initial_of, primitive_initial}
use Rattle.poly_model.proofs.Front.{class_by, class-is}

pub degree-coefficient : (i d : ℕ) (p : Polynomial) → degree_at i (coefficient_at i d p) ≡ 0
degree-coefficient i d [] = refl
degree-coefficient i d ((es, c) ∷ p) =
    elim (get_or es i 0 == d) as (λ b. degree_at i (cond b ((set es i 0, c) ∷ coefficient_at i d p) (coefficient_at i d p)) ≡ 0) [
      | true ↦ let a : get_or (set es i 0) i 0 ≡ 0 = cleared i es in let b = degree-coefficient i d p in omega (arith, a, b)
      | false ↦ degree-coefficient i d p
    ]
  where
    cleared : (i : ℕ) (es : List ℕ) → get_or (set es i 0) i 0 ≡ 0
    cleared i [] = refl
    cleared zero (e ∷ es) = refl
    cleared (suc i) (e ∷ es) = cleared i es

degree-divided : (i : ℕ) (turned : Bool) (m : ℕ) (p : Polynomial) → degree_at i (entries_divided turned m p) ≡ degree_at i p
degree-divided i turned m [] = refl
degree-divided i turned m ((es, c) ∷ p) = ap (max (get_or es i 0)) (degree-divided i turned m p)

monomial_class-used : (es : List ℕ) (i : ℕ) → monomial_class es ≡ suc i → 1 ≤ get_or es i 0
monomial_class-used [] i h = absurd (omega (arith, h))
monomial_class-used (e ∷ es) i h =
    elim (monomial_class es) as (λ k. monomial_class es ≡ k → (elim k as (λ _. ℕ) [ zero ↦ if e == 0 then 0 else 1 | suc k ↦ suc (suc k) ]) ≡ suc i → 1 ≤ get_or (e ∷ es) i 0) [
      | zero ↦ λ q. elim (e == 0) as (λ b. (e == 0) ≡ b → (if b then 0 else 1) ≡ suc i → 1 ≤ get_or (e ∷ es) i 0) [
        | true ↦ λ t g. absurd (omega (arith, g))
        | false ↦ λ t g. first i (omega (arith, g)) (eqb-false e 0 t)
      ] refl
      | suc k ↦ λ q g. later k i (omega (arith, g)) (monomial_class-used es k q)
    ] refl h
  where
    first : (i : ℕ) → i ≡ 0 → (e ≡ 0 → ⊥) → 1 ≤ get_or (e ∷ es) i 0
    first zero z n = some e n
      where
        some : (e : ℕ) → (e ≡ 0 → ⊥) → 1 ≤ e
        some zero n = absurd (n refl)
        some (suc e) n = omega arith
    first (suc i) z n = absurd (omega (arith, z))

    later : (k i : ℕ) → i ≡ suc k → 1 ≤ get_or es k 0 → 1 ≤ get_or (e ∷ es) i 0
    later k zero z n = absurd (omega (arith, z))
    later k (suc i) z n = subst (λ j. 1 ≤ get_or es j 0) (let q : k ≡ i = omega (arith, z) in q) n

pub degree-used : (p : Polynomial) (i : ℕ) → class_of p ≡ suc i → 1 ≤ degree_at i p
degree-used [] i h = absurd (omega (arith, h))
degree-used ((es, c) ∷ p) i h = cases (largest (monomial_class es) (class_of p) (suc i) h) (degree-used p i)
  where
    largest : (a b m : ℕ) → max a b ≡ m → (a ≡ m) ⊎ (b ≡ m)
    largest a b m h = grind arith

    cases : (monomial_class es ≡ suc i) ⊎ (class_of p ≡ suc i) → (class_of p ≡ suc i → 1 ≤ degree_at i p) → 1 ≤ degree_at i ((es, c) ∷ p)
    cases (inl q) more = let a = monomial_class-used es i q in omega (arith, a)
    cases (inr q) more = let a = more q in omega (arith, a)

pub initial-other : (p : Polynomial) → (class_of p ≡ 0 → ⊥) → primitive_initial p ≡ p → ⊥
initial-other p n e = go (class_of p) refl
  where
    go : (k : ℕ) → class_of p ≡ k → ⊥
    go zero q = n q
    go (suc i) q =
        let place : main_place p ≡ i = omega (arith, q) in
        let used = degree-used p i q in
        let lost : degree_at i (primitive_initial p) ≡ 0 =
        ap (λ j. degree_at j (primitive_initial p)) (sym place) ∙ degree-divided (main_place p) (begins_negative (initial_of p)) (coefficients_gcd (initial_of p)) (initial_of p) ∙ degree-coefficient (main_place p) (main_degree p) p
        in
        omega (arith, used, sym lost ∙ ap (degree_at i) e)

-- ---- a class tells the variables
none_used : (n : ℕ) (es : List ℕ) → list_all (λ e. nat_eq e 0) (drop n es) ≡ true → monomial_class es ≤ n
none_used n [] a = omega arith
none_used zero (e ∷ es) a =
    let parts = and_parts (nat_eq e 0) _ a in
    let rest : monomial_class es ≡ 0 = let r = none_used 0 es parts.1 in omega (arith, r) in
    let is : monomial_class (e ∷ es) ≡ 0 = class-is e es ∙ (λ i. class_by (eqb-true e 0 parts.0 i) (rest i)) in
    omega (arith, is)
none_used (suc n) (e ∷ es) a =
    let r = none_used n es a in
    let is = class-is e es in
    let b = by e (monomial_class es) n r in
    omega (arith, is, b)
  where
    one : (t : Bool) → (if t then 0 else 1) ≤ 1
    one true = omega arith
    one false = omega arith

    by : (e k n : ℕ) → k ≤ n → class_by e k ≤ suc n
    by e zero n h = let t = one (e == 0) in omega (arith, t)
    by e (suc k) n h = omega (arith, h)

class_unused : (n : ℕ) (es : List ℕ) → monomial_class es ≤ n → list_all (λ e. nat_eq e 0) (drop n es) ≡ true
class_unused zero [] h = refl
class_unused (suc n) [] h = refl
class_unused zero (e ∷ es) h =
    by (monomial_class es) (let is = class-is e es in let l : class_by e (monomial_class es) ≤ 0 = omega (arith, is, h) in l) refl (λ q. class_unused zero es q)
  where
    zero_if : (t : Bool) → (e == 0) ≡ t → (if t then 0 else 1) ≤ 0 → nat_eq e 0 ≡ true
    zero_if true q l = q
    zero_if false q l = absurd (omega (arith, l))

    by : (k : ℕ) → class_by e k ≤ 0 → monomial_class es ≡ k → (monomial_class es ≤ 0 → list_all (λ e. nat_eq e 0) es ≡ true) → list_all (λ e. nat_eq e 0) (e ∷ es) ≡ true
    by zero l q rest = both_true (zero_if (e == 0) refl l) (rest (omega (arith, q)))
    by (suc k) l q rest = absurd (omega (arith, l))
class_unused (suc n) (e ∷ es) h = class_unused n es (by (monomial_class es) (let is = class-is e es in let l : class_by e (monomial_class es) ≤ suc n = omega (arith, is, h) in l))
  where
    by : (k : ℕ) → class_by e k ≤ suc n → k ≤ n
    by zero l = omega arith
    by (suc k) l = omega (arith, l)

over-class : (n : ℕ) (p : Polynomial) → is_over n p ≡ true → class_of p ≤ n
over-class n [] a = omega arith
over-class n ((es, c) ∷ p) a =
    let parts = and_parts (list_all (λ e. nat_eq e 0) (drop n es)) (is_over n p) a in
    let f = none_used n es parts.0 in
    let r = over-class n p parts.1 in
    omega (arith, f, r)

class-over : (n : ℕ) (p : Polynomial) → class_of p ≤ n → is_over n p ≡ true
class-over n [] h = refl
class-over n ((es, c) ∷ p) h = both_true (class_unused n es (omega (arith, h))) (class-over n p (omega (arith, h)))

-- Only the first n variables occur exactly where the class is at most n.
pub over-by_class : (n : ℕ) (p : Polynomial) → is_over n p ≡ nat_le (class_of p) n
over-by_class n p = both_ways _ _ (λ a. le-leb (class_of p) n (over-class n p a)) (λ a. class-over n p (leb-true (class_of p) n a))

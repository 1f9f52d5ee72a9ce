-- The parts of an elementary reduction.
use Rattle.std.proofs.Common.{◌≡◌, ℕ, ◌+◌, ◌-◌, ◌<◌, ◌≤◌, suc, refl, [], sym, ◌∙◌, ap, subst, arith, true, false, IsTrue}
use Rattle.std.specs.Prelude.{ℤ, Result, Ok, Err, nat_le}
use Rattle.std.specs.Cmp.Derive.{both_true}
use Rattle.std.proofs.lemmas.Bool.{leb-true, le-leb}
use Rattle.std.proofs.lemmas.Bool.Decides.{nat_tests}
use Rattle.poly_model.specs.Polynomial.{Polynomial}
use Rattle.poly_model.specs.Standard.{is_standard}
use Rattle.poly_model.specs.Reduction.{class_of, main_place, main_degree, degree_at, coefficient_at, shifted, reaches, factor_of}
use Rattle.poly_model.specs.Bounded.{degrees_fit, bounded_rows, bounded_difference, bounded_product, bounded_shift, and_then, bounded_cross}
use Rattle.poly_model.specs.declared.limits.Limit.{Limit}
use Rattle.poly_model.specs.declared.limits.Limit.TheVariants.{Degree}
use Rattle.poly_model.specs.declared.limits.TheConstants.{MOST_VARIABLES, MOST_DEGREE}
use Rattle.poly_model.proofs.Within.{within-of}
use Rattle.poly_model.proofs.Standards.{degree-low}
use Rattle.poly_model.proofs.Classes.{degree-coefficient}
use Rattle.term_store.specs.States.{State, IsLive}
use Rattle.term_store.specs.Changes.{Makes}
use Rattle.term_store.proofs.Making as making
use Rattle.polynomials.specs.declared.poly.Poly.{Poly}
use Rattle.polynomials.specs.Held.{Gives, slot_of}
use Rattle.polynomials.proofs.Outcomes.{product-rows}
use Rattle.polynomials.proofs.Reading.{class-within}
use Rattle.polynomials.proofs.Results as results
use Rattle.polynomials.proofs.Results.{Freed}
use Rattle.pseudo_div.specs.Answers.{Reduces}

-- the greatest variable has its place, and is the place of the class
pub place-is : (f : Polynomial) (var : ℕ) → class_of f ≡ suc var → main_place f ≡ var
place-is f var e = omega (arith, e)

pub place-below : (f : Polynomial) (var : ℕ) → is_standard f ≡ true → class_of f ≡ suc var → suc var ≤ MOST_VARIABLES
place-below f var s e = let w = class-within MOST_VARIABLES f (within-of f s).descending in omega (arith, e, w)

pub reaches-at : (g f : Polynomial) (var : ℕ) → class_of f ≡ suc var → IsTrue (reaches g f) → degree_at var f ≤ degree_at var g
reaches-at g f var e r = subst (λ i. degree_at i f ≤ degree_at i g) (place-is f var e) (leb-true (main_degree f) (degree_at (main_place f) g) r)

-- ---- the factor
pub factor-at : (g f : Polynomial) (var : ℕ) → class_of f ≡ suc var
    → shifted var (degree_at var g - degree_at var f) (coefficient_at var (degree_at var g) g) ≡ factor_of g f
factor-at g f var e =
    let place = sym (place-is f var e) in
    λ j. shifted (place j) (degree_at (place j) g - degree_at (place j) f) (coefficient_at (place j) (degree_at (place j) g) g)

pub shift-fits : (i d k : ℕ) (g : Polynomial) → is_standard g ≡ true → k ≤ degree_at i g → bounded_shift i k (coefficient_at i d g) ≡ Ok (shifted i k (coefficient_at i d g))
shift-fits i d k g s le =
    let none = degree-coefficient i d g in
    let low = degree-low i g (within-of g s).low in
    let fits : degree_at i (coefficient_at i d g) + k ≤ MOST_DEGREE = omega (arith, none, low, le) in
    ap (λ b. elim b as (λ _. Result Polynomial Limit) [ false ↦ Err Degree | true ↦ Ok (shifted i k (coefficient_at i d g)) ]) (le-leb _ MOST_DEGREE fits)

pub not-both : (w : Result Polynomial Limit) (p : Polynomial) (l : Limit) → w ≡ Ok p → w ≡ Err l → ⊥
not-both w p l e f = let z : ◌≡◌ {A = Result Polynomial Limit} (Ok p) (Err l) = sym e ∙ f in cc

-- ---- the two products
pub cross-fits : (a p b q : Polynomial) → degrees_fit a p ≡ true → degrees_fit b q ≡ true
    → bounded_cross a p b q ≡ and_then (bounded_product a p) (λ first. and_then (bounded_product b q) (λ second. bounded_difference first second))
cross-fits a p b q fa fb =
    ap (λ w. elim w as (λ _. Result Polynomial Limit) [
      | false ↦ Err Degree
      | true ↦ and_then (bounded_rows a p []) (λ first. and_then (bounded_rows b q []) (λ second. bounded_difference first second))
    ]) (both_true fa fb)
    ∙ (λ i. and_then (sym (product-rows a p fa) i) (λ first. and_then (sym (product-rows b q fb) i) (λ second. bounded_difference first second)))

-- a step after an outcome that is there
pub then-ok : {A B : Type 0} (w : Result A Limit) (p : A) (next : A → Result B Limit) → w ≡ Ok p → and_then w next ≡ next p
then-ok w p next e = ap (λ v. and_then v next) e

-- ---- intermediate lists are given up
pub reduces-freed : (s t u v : State) (k : Poly) (result : Result (ℤ × Poly) Limit) (whole : Result (ℤ × Polynomial) Limit) → Makes s t (slot_of k) → Reduces t u result whole
    → Freed u v (slot_of k) → Reduces s v result whole
reduces-freed s t u v k (Ok r) (Ok p) a o f = (o.0, results.gives-freed s t u v k r.1 p.1 a o.1 f)
reduces-freed s t u v k (Ok r) (Err l) a o f = o
reduces-freed s t u v k (Err x) (Ok p) a o f = o
reduces-freed s t u v k (Err x) (Err l) a o f = (o.0, results.keeps-freed s t u v (slot_of k) a o.1 f)

pub reduces-live : (s t : State) (j : ℕ) (result : Result (ℤ × Poly) Limit) (whole : Result (ℤ × Polynomial) Limit) → Reduces s t result whole → IsLive s.lists j → IsLive t.lists j
reduces-live s t j (Ok r) (Ok p) o live = making.makes-other-live s t (slot_of r.1) j o.1.makes live
reduces-live s t j (Ok r) (Err l) o live = absurd o
reduces-live s t j (Err x) (Ok p) o live = absurd o
reduces-live s t j (Err x) (Err l) o live = subst (λ n. IsLive n j) (sym o.1.lists) live

pub reduces-some : (s t : State) (r : ℤ × Poly) (whole : Result (ℤ × Polynomial) Limit) → Reduces s t (Ok r) whole → (p : ℤ × Polynomial) × (whole ≡ Ok p) × (r.0 ≡ p.0) × Gives s t r.1 p.1
reduces-some s t r (Ok p) o = (p, refl, o.0, o.1)
reduces-some s t r (Err l) o = absurd o

-- ---- degrees tell what is reached
reach : (g f : Polynomial) (var : ℕ) → class_of f ≡ suc var → reaches g f ≡ nat_le (degree_at var f) (degree_at var g)
reach g f var e = let place = place-is f var e in λ i. nat_le (degree_at (place i) f) (degree_at (place i) g)

pub reaches-of : (g f : Polynomial) (var : ℕ) → class_of f ≡ suc var → degree_at var f ≤ degree_at var g → reaches g f ≡ true
reaches-of g f var e le = reach g f var e ∙ le-leb (degree_at var f) (degree_at var g) le

pub reaches-not : (g f : Polynomial) (var : ℕ) → class_of f ≡ suc var → degree_at var g < degree_at var f → reaches g f ≡ false
reaches-not g f var e lt = reach g f var e ∙ past (degree_at var f) (degree_at var g) lt
  where
    past : (a b : ℕ) → b < a → nat_le a b ≡ false
    past a b n = grind (arith, nat_tests)

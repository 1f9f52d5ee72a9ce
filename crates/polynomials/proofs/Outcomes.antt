-- Outcomes of bounded arithmetic in a store.
use Rattle.std.proofs.Common.{suc, ◌≡◌, ◌+◌, ◌<◌, ◌≤◌, ℕ, List, [], ◌∷◌, length, refl, sym, ◌∙◌, ap, subst, arith, true, false, nat_le}
use Rattle.std.specs.Prelude.{ℤ, Result, Ok, Err}
use Rattle.std.specs.FinMap.{remove}
use Rattle.std.proofs.lemmas.Bool.Decides.{nat_tests}
use Rattle.poly_model.specs.Polynomial.{Polynomial, IsDescending, poly_sum, poly_negative}
use Rattle.poly_model.proofs.Ordered.{descending-add_multiple}
use Rattle.poly_model.proofs.Rows.{row-is, add_multiple-is}
use Rattle.poly_model.proofs.Within.{row-parts, within-of}
use Rattle.std.proofs.lemmas.Bool.{leb-true}
use Rattle.polynomials.proofs.Steps.{polynomial-length}
use Rattle.poly_model.specs.Standard.{polynomial_of}
use Rattle.poly_model.specs.declared.limits.TheConstants.{MOST_TERMS, MOST_VARIABLES}
use Rattle.term_store.specs.States.{State, IsLive, list_at}
use Rattle.term_store.specs.Changes.{Makes, Keeps, given_up}
use Rattle.term_store.specs.declared.store.Slot.{Slot}
use Rattle.term_store.proofs.Making as making
use Rattle.poly_model.specs.declared.limits.Limit.{Limit}
use Rattle.poly_model.specs.declared.limits.Limit.TheVariants.{Degree, Bound, Terms}
use Rattle.poly_model.specs.Standard.{are_bounded}
use Rattle.poly_model.specs.Bounded.{within_limits, bounded_sum, multiple, bounded_row, bounded_rows, bounded_product, degrees_fit}
use Rattle.poly_model.specs.Standard.{is_standard}
use Rattle.polynomials.specs.declared.poly.Poly.{Poly}
use Rattle.polynomials.specs.Held.{Outcome, Answers, Gives, slot_of, polynomial_at}

pub within-bound : (p : Polynomial) → are_bounded p ≡ false → within_limits p ≡ Err Bound
within-bound p e = ap (λ b. elim b as (λ _. Result Polynomial Limit) [ false ↦ Err Bound | true ↦ elim (nat_le (length p) MOST_TERMS) [ false ↦ Err Terms | true ↦ Ok p ] ]) e

pub within-terms : (p : Polynomial) → are_bounded p ≡ true → MOST_TERMS < length p → within_limits p ≡ Err Terms
within-terms p e lt =
    ap (λ b. elim b as (λ _. Result Polynomial Limit) [ false ↦ Err Bound | true ↦ elim (nat_le (length p) MOST_TERMS) [ false ↦ Err Terms | true ↦ Ok p ] ]) e
    ∙ ap (λ b. elim b as (λ _. Result Polynomial Limit) [ false ↦ Err Terms | true ↦ Ok p ]) (no (length p) MOST_TERMS lt)
  where
    no : (a b : ℕ) → b < a → nat_le a b ≡ false
    no a b lt = grind (arith, nat_tests)

pub within-ok : (p : Polynomial) → are_bounded p ≡ true → length p ≤ MOST_TERMS → within_limits p ≡ Ok p
within-ok p e le =
    ap (λ b. elim b as (λ _. Result Polynomial Limit) [ false ↦ Err Bound | true ↦ elim (nat_le (length p) MOST_TERMS) [ false ↦ Err Terms | true ↦ Ok p ] ]) e
    ∙ ap (λ b. elim b as (λ _. Result Polynomial Limit) [ false ↦ Err Terms | true ↦ Ok p ]) (yes' (length p) MOST_TERMS le)
  where
    yes' : (a b : ℕ) → a ≤ b → nat_le a b ≡ true
    yes' a b le = grind (arith, nat_tests)

pub row-bound : (e : List ℕ) (c : ℤ) (q sum : Polynomial) → are_bounded (multiple e c q) ≡ false → bounded_row e c q sum ≡ Err Bound
row-bound e c q sum is = ap (λ b. elim b as (λ _. Result Polynomial Limit) [ false ↦ Err Bound | true ↦ bounded_sum (multiple e c q) sum ]) is

pub row-sum : (e : List ℕ) (c : ℤ) (q sum : Polynomial) → are_bounded (multiple e c q) ≡ true → bounded_row e c q sum ≡ bounded_sum (multiple e c q) sum
row-sum e c q sum is = ap (λ b. elim b as (λ _. Result Polynomial Limit) [ false ↦ Err Bound | true ↦ bounded_sum (multiple e c q) sum ]) is

pub made : (s t : State) (r : Slot) (p : Polynomial) (whole : Result Polynomial Limit) → whole ≡ Ok p → Makes s t r.0 → polynomial_of (list_at t.lists r.0) ≡ p → Outcome s t (Ok r) whole
made s t r p whole e m v = subst (Outcome s t (Ok r)) (sym e) (m, v)

pub met : (s t : State) (l : Limit) (whole : Result Polynomial Limit) → whole ≡ Err l → Keeps s t → Outcome s t (Err l) whole
met s t l whole e k = subst (Outcome s t (Err l)) (sym e) (refl, k)

-- ---- giving up what is not needed
-- a list made before, and an older one, are given up
pub given-up : (s t u v w : State) (k m : ℕ) (result : Result Slot Limit) (whole : Result Polynomial Limit) → Makes s t k → IsLive s.lists m → Outcome t u result whole
    → v.lists ≡ remove u.lists k → v.spare ≡ u.spare + (length (list_at u.lists k) + 1)
    → w.lists ≡ remove v.lists m → w.spare ≡ v.spare + (length (list_at v.lists m) + 1) → Outcome (given_up s m) w result whole
given-up s t u v w k m (Ok r) (Ok p) a live o vl vs wl ws =
    let b = making.makes-swapped s t u v k r.0 a o.0 vl vs in
    let c = making.makes-given_up s v w r.0 m b live wl ws in
    (c.0, ap polynomial_of (c.1 ∙ making.makes-swapped-at s t u v k r.0 a o.0 vl) ∙ o.1)
given-up s t u v w k m (Ok r) (Err l) a live o vl vs wl ws = o
given-up s t u v w k m (Err x) (Ok p) a live o vl vs wl ws = o
given-up s t u v w k m (Err x) (Err l) a live o vl vs wl ws = (o.0, making.keeps-given_up s v w m (making.keeps-freed s t u v k a o.1 vl vs) wl ws)

-- a list made before is given up
pub outcome-freed : (s t u v : State) (k : ℕ) (result : Result Slot Limit) (whole : Result Polynomial Limit) → Makes s t k → Outcome t u result whole
    → v.lists ≡ remove u.lists k → v.spare ≡ u.spare + (length (list_at u.lists k) + 1) → Outcome s v result whole
outcome-freed s t u v k (Ok r) (Ok p) a o vl vs = (making.makes-swapped s t u v k r.0 a o.0 vl vs, ap polynomial_of (making.makes-swapped-at s t u v k r.0 a o.0 vl) ∙ o.1)
outcome-freed s t u v k (Ok r) (Err l) a o vl vs = o
outcome-freed s t u v k (Err x) (Ok p) a o vl vs = o
outcome-freed s t u v k (Err x) (Err l) a o vl vs = (o.0, making.keeps-freed s t u v k a o.1 vl vs)

pub outcome-live : (s t : State) (j : ℕ) (result : Result Slot Limit) (whole : Result Polynomial Limit) → Outcome s t result whole → IsLive s.lists j → IsLive t.lists j
outcome-live s t j (Ok r) (Ok p) o live = making.makes-other-live s t r.0 j o.0 live
outcome-live s t j (Ok r) (Err l) o live = absurd o
outcome-live s t j (Err x) (Ok p) o live = absurd o
outcome-live s t j (Err x) (Err l) o live = subst (λ n. IsLive n j) (sym o.1.lists) live

pub outcome-freed-live : (s t u v : State) (k j : ℕ) (result : Result Slot Limit) (whole : Result Polynomial Limit) → Makes s t k → Outcome t u result whole → v.lists ≡ remove u.lists k → IsLive s.lists j → IsLive v.lists j
outcome-freed-live s t u v k j result whole a o e live =
    subst (λ n. IsLive n j) (sym e) (making.live-removed u.lists k j (making.makes-apart s t k j a live) (outcome-live t u j result whole o (making.makes-other-live s t k j a live)))

-- ---- the rows of a product, on their way
pub record Summing (rest q sum : Polynomial) (whole : Result Polynomial Limit) : Type 0 where
  pub value : bounded_rows rest q sum ≡ whole
  pub descending : IsDescending MOST_VARIABLES sum
  pub bounded : are_bounded sum ≡ true
  pub short : length sum ≤ MOST_TERMS

pub summing-start : (p q : Polynomial) (sum : Polynomial) → sum ≡ [] → Summing p q sum (bounded_rows p q [])
summing-start p q sum e = subst (λ s. Summing p q s (bounded_rows p q [])) (sym e) record { value = refl; descending = tt; bounded = refl; short = omega arith }

pub summing-next : (es : List ℕ) (c : ℤ) (p q sum next : Polynomial) (whole : Result Polynomial Limit) → length es ≡ MOST_VARIABLES → IsDescending MOST_VARIABLES q → Summing ((es, c) ∷ p) q sum whole → bounded_row es c q sum ≡ Ok next
    → Summing p q next whole
summing-next es c p q sum next whole l k m e =
    let same = row-is es c q sum next e in
    let parts = row-parts es c q sum next e in
    let onto : next ≡ poly_sum (multiple es c q) sum = same ∙ add_multiple-is es c q sum in
    record {
      value = sym (ap (λ b. elim b as (λ _. Result Polynomial Limit) [ Err limit ↦ Err limit | Ok s ↦ bounded_rows p q s ]) e) ∙ m.value;
      descending = subst (IsDescending MOST_VARIABLES) (sym same) (descending-add_multiple MOST_VARIABLES es c q sum l k m.descending);
      bounded = ap are_bounded onto ∙ parts.0;
      short = le_of _ _ (ap (λ x. nat_le (length x) MOST_TERMS) onto ∙ parts.1);
    }
  where
    le_of : (a b : ℕ) → nat_le a b ≡ true → a ≤ b
    le_of a b e = grind (arith, nat_tests)

pub summing-stops : (es : List ℕ) (c : ℤ) (p q sum : Polynomial) (l : Limit) (whole : Result Polynomial Limit) → Summing ((es, c) ∷ p) q sum whole → bounded_row es c q sum ≡ Err l → whole ≡ Err l
summing-stops es c p q sum l whole m e = sym m.value ∙ ap (λ b. elim b as (λ _. Result Polynomial Limit) [ Err limit ↦ Err limit | Ok s ↦ bounded_rows p q s ]) e

-- what an outcome says by its cases
pub outcome-ok : (s t : State) (r : Slot) (whole : Result Polynomial Limit) → Outcome s t (Ok r) whole → Makes s t r.0 × (whole ≡ Ok (polynomial_of (list_at t.lists r.0)))
outcome-ok s t r (Ok p) o = (o.0, ap Ok (sym o.1))
outcome-ok s t r (Err l) o = absurd o

pub outcome-err : (s t : State) (l : Limit) (whole : Result Polynomial Limit) → Outcome s t (Err l) whole → Keeps s t × (whole ≡ Err l)
outcome-err s t l (Ok p) o = absurd o
outcome-err s t l (Err m) o = (o.1, ap Err (sym o.0))

pub product-rows : (p q : Polynomial) → degrees_fit p q ≡ true → bounded_product p q ≡ bounded_rows p q []
product-rows p q e = ap (λ b. elim b as (λ _. Result Polynomial Limit) [ false ↦ Err Degree | true ↦ bounded_rows p q [] ]) e

pub answers-err : (s t : State) (l : Limit) (whole : Result Polynomial Limit) → whole ≡ Err l → Keeps s t → Answers s t (Err l) whole
answers-err s t l whole e k = subst (Answers s t (Err l)) (sym e) (refl, k)

pub answers-ok : (s t : State) (r : Poly) (p : Polynomial) (whole : Result Polynomial Limit) → whole ≡ Ok p → Makes s t (slot_of r) → polynomial_at t r ≡ p → is_standard p ≡ true → Answers s t (Ok r) whole
answers-ok s t r p whole e m v h = subst (Answers s t (Ok r)) (sym e) record { makes = m; value = v; standard = h }

pub answers-of : (s t : State) (r : Slot) (whole : Result Polynomial Limit) → Outcome s t (Ok r) whole → ((p : Polynomial) → whole ≡ Ok p → is_standard p ≡ true) → Answers s t (Ok record { slot = r }) whole
answers-of s t r (Ok p) o h = record { makes = o.0; value = o.1; standard = h p refl }
answers-of s t r (Err l) o h = o

pub answers-limit : (s t : State) (l : Limit) (whole : Result Polynomial Limit) → Outcome s t (Err l) whole → Answers s t (Err l) whole
answers-limit s t l (Ok p) o = o
answers-limit s t l (Err m) o = o

-- a polynomial within the limits in a new list
pub gives : (s t : State) (r : Slot) (p : Polynomial) → Makes s t r.0 → polynomial_of (list_at t.lists r.0) ≡ p → is_standard p ≡ true → Gives s t record { slot = r } p
gives s t r p m v h = record { makes = m; value = v; standard = h }

-- what is within the limits has few terms
pub few : (s : State) (k : ℕ) → is_standard (polynomial_of (list_at s.lists k)) ≡ true → length (list_at s.lists k) ≤ MOST_TERMS
few s k h =
    let short = (within-of (polynomial_of (list_at s.lists k)) h).short in
    let l = leb-true (length (polynomial_of (list_at s.lists k))) MOST_TERMS short in
    let e = polynomial-length (list_at s.lists k) in
    omega (arith, l, e)

pub negative-long : (p : Polynomial) → length (poly_negative p) ≡ length p
negative-long [] = refl
negative-long ((es, c) ∷ p) = ap suc (negative-long p)

-- The result of bounded arithmetic is within the limits.
use Rattle.std.proofs.Common.{◌≡◌, ◌≢◌, ℕ, ◌≤◌, zero, suc, refl, List, [], ◌∷◌, length, sym, ◌∙◌, ap, subst, Bool, true, false, ◌&&◌, nat_le, nat_lt, nat_eq, arith, max}
use Rattle.std.specs.Prelude.{ℤ, pos, negsuc, ◌+ℤ◌, unsigned_abs, Result, Ok, Err}
use Rattle.std.specs.List.{list_all}
use Rattle.std.proofs.lemmas.Bool.Decides.{nat_tests}
use Rattle.std.proofs.lemmas.Bool.{and_parts}
use Rattle.std.specs.Cmp.Derive.{both_true}
use Rattle.std.specs.Ordering.{is_gt}
use Rattle.std.specs.declared.cmp.Ordering.TheVariants.{Less, Equal, Greater}
use Rattle.poly_model.specs.Polynomial.{Polynomial, IsAbove, IsDescending, monomial_cmp, exponents_sum, with_entry, add_entry, add_multiple, poly_sum}
use Rattle.poly_model.specs.Standard.{are_low, is_bounded, are_bounded, is_short, is_within, is_above, are_descending, is_standard}
use Rattle.poly_model.specs.declared.limits.TheConstants.{MOST_VARIABLES, MOST_SIZE, MOST_TERMS, MOST_DEGREE}
use Rattle.poly_model.proofs.Ordered.{descending-add_multiple, descending-sum}
use Rattle.poly_model.proofs.Standing.{standard-descending}
use Rattle.poly_model.proofs.Order.{exponents_sum-none}
use Rattle.poly_model.specs.declared.limits.Limit.{Limit}
use Rattle.poly_model.specs.declared.limits.Limit.TheVariants.{Degree, Bound, Terms}
use Rattle.poly_model.specs.Bounded.{within_limits, bounded_sum, multiple, bounded_row, bounded_rows, degrees_of, exponents_max, degrees_fit, bounded_product}
use Rattle.poly_model.proofs.Rows.{within-is, row-is, add_multiple-is}

-- no exponent passes the highest degree
abbrev pub all_low : Polynomial → Bool
all_low = list_all (λ e. are_low e.0)

-- the parts of a polynomial within the limits
pub record Within (p : Polynomial) : Type 0 where
  pub descending : IsDescending MOST_VARIABLES p
  pub bounded : are_bounded p ≡ true
  pub low : all_low p ≡ true
  pub short : is_short p ≡ true

some_lt : (c : ℤ) → c ≢ pos 0 → nat_lt 0 (unsigned_abs c) ≡ true
some_lt (pos zero) n = absurd (n refl)
some_lt (pos (suc k)) n = grind (arith, nat_tests)
some_lt (negsuc k) n = grind (arith, nat_tests)

eq_true : (a b : ℕ) → a ≡ b → nat_eq a b ≡ true
eq_true a b e = grind (arith, nat_tests)

first_above : (es : List ℕ) (c : ℤ) (p : Polynomial) → IsAbove es p → is_above (es, c) p ≡ true
first_above es c [] a = refl
first_above es c ((fs, d) ∷ p) a = ap is_gt a.0

descending-of : (p : Polynomial) → IsDescending MOST_VARIABLES p → are_bounded p ≡ true → all_low p ≡ true → are_descending p ≡ true
descending-of [] h b l = refl
descending-of ((es, c) ∷ p) h b l =
    both_true
    (both_true (both_true (eq_true _ _ h.0) (both_true (some_lt c h.1) ((and_parts (is_bounded c) (are_bounded p) b).0))) ((and_parts (are_low es) (all_low p) l).0))
    (both_true (first_above es c p h.2) (descending-of p h.3 ((and_parts (is_bounded c) (are_bounded p) b).1) ((and_parts (are_low es) (all_low p) l).1)))

pub standard-of : (p : Polynomial) → Within p → is_standard p ≡ true
standard-of p w = both_true w.short (descending-of p w.descending w.bounded w.low)

parts : (p : Polynomial) → are_descending p ≡ true → (are_bounded p ≡ true) × (all_low p ≡ true)
parts [] e = (refl, refl)
parts ((es, c) ∷ p) e =
    let within = (and_parts (is_within (es, c)) _ e).0 in
    let rest = parts p ((and_parts (is_above (es, c) p) _ ((and_parts (is_within (es, c)) _ e).1)).1) in
    let head = (and_parts (nat_eq (length es) MOST_VARIABLES && (nat_lt 0 (unsigned_abs c) && nat_le (unsigned_abs c) MOST_SIZE)) (are_low es) within).0 in
    let size = (and_parts (nat_lt 0 (unsigned_abs c)) (is_bounded c) ((and_parts (nat_eq (length es) MOST_VARIABLES) _ head).1)).1 in
    (both_true size rest.0, both_true ((and_parts (nat_eq (length es) MOST_VARIABLES && (nat_lt 0 (unsigned_abs c) && nat_le (unsigned_abs c) MOST_SIZE)) (are_low es) within).1) rest.1)

pub within-of : (p : Polynomial) → is_standard p ≡ true → Within p
within-of p e =
    let d = parts p ((and_parts (is_short p) (are_descending p) e).1) in
    record {
      descending = standard-descending p e;
      bounded = d.0;
      low = d.1;
      short = (and_parts (is_short p) (are_descending p) e).0;
    }

-- what is within the limits has its coefficients bounded, and is short
pub within-parts : (p r : Polynomial) → within_limits p ≡ Ok r → (are_bounded p ≡ true) × (is_short p ≡ true)
within-parts p r is =
    elim (are_bounded p) as (λ b. elim b as (λ _. Result Polynomial Limit) [ false ↦ Err Bound | true ↦ elim (is_short p) [ false ↦ Err Terms | true ↦ Ok p ] ] ≡ Ok r → (b ≡ true) × (is_short p ≡ true)) [
      | false ↦ λ e. absurd (cc)
      | true ↦ λ e.
          elim (is_short p) as (λ b. elim b as (λ _. Result Polynomial Limit) [ false ↦ Err Terms | true ↦ Ok p ] ≡ Ok r → (true ≡ true) × (b ≡ true)) [
            | false ↦ λ d. absurd (cc)
            | true ↦ λ d. (refl, refl)
          ] e
    ] is

-- ---- exponents
low_max : (xs ys : List ℕ) → are_low (exponents_max xs ys) ≡ true → (are_low xs ≡ true) × (are_low ys ≡ true)
low_max [] ys e = (refl, e)
low_max (a ∷ xs) [] e = (e, refl)
low_max (a ∷ xs) (b ∷ ys) e =
    let here = (and_parts (nat_le (max a b) MOST_DEGREE) _ e).0 in
    let rest = low_max xs ys ((and_parts (nat_le (max a b) MOST_DEGREE) _ e).1) in
    (both_true (left a b here) rest.0, both_true (right a b here) rest.1)
  where
    left : (a b : ℕ) → nat_le (max a b) MOST_DEGREE ≡ true → nat_le a MOST_DEGREE ≡ true
    left a b e = grind (arith, nat_tests)

    right : (a b : ℕ) → nat_le (max a b) MOST_DEGREE ≡ true → nat_le b MOST_DEGREE ≡ true
    right a b e = grind (arith, nat_tests)

-- lower exponents have a lower sum
abbrev pub AreUnder : List ℕ → List ℕ → Type 0
AreUnder [] ys = Unit {0}
AreUnder (a ∷ xs) [] = (a ≡ 0) × AreUnder xs []
AreUnder (a ∷ xs) (b ∷ ys) = (a ≤ b) × AreUnder xs ys

under_self : (xs : List ℕ) → AreUnder xs xs
under_self [] = tt
under_self (a ∷ xs) = (omega arith, under_self xs)

under_left : (xs ys : List ℕ) → AreUnder xs (exponents_max xs ys)
under_left [] ys = tt
under_left (a ∷ xs) [] = under_self (a ∷ xs)
under_left (a ∷ xs) (b ∷ ys) = (omega arith, under_left xs ys)

under_none : (xs ys : List ℕ) → AreUnder xs [] → AreUnder xs ys
under_none [] ys u = tt
under_none (a ∷ xs) [] u = u
under_none (a ∷ xs) (b ∷ ys) u = (omega (arith, u.0), under_none xs ys u.1)

under_right : (zs xs ys : List ℕ) → AreUnder zs ys → AreUnder zs (exponents_max xs ys)
under_right [] xs ys u = tt
under_right (z ∷ zs) [] ys u = u
under_right (z ∷ zs) (a ∷ xs) [] u = (omega (arith, u.0), under_none zs xs u.1)
under_right (z ∷ zs) (a ∷ xs) (b ∷ ys) u = (omega (arith, u.0), under_right zs xs ys u.1)

low_le : (a b : ℕ) → a ≤ b → nat_le b MOST_DEGREE ≡ true → nat_le a MOST_DEGREE ≡ true
low_le a b h e = grind (arith, nat_tests)

low_under : (xs ys : List ℕ) → AreUnder xs ys → are_low ys ≡ true → are_low xs ≡ true
low_under [] ys u e = refl
low_under (a ∷ xs) [] u e = both_true (low_le a 0 (omega (arith, u.0)) refl) (low_under xs [] u.1 refl)
low_under (a ∷ xs) (b ∷ ys) u e = both_true (low_le a b u.0 ((and_parts _ _ e).0)) (low_under xs ys u.1 ((and_parts (nat_le b MOST_DEGREE) _ e).1))

under_sum : (xs ys as_ bs : List ℕ) → AreUnder xs as_ → AreUnder ys bs → AreUnder (exponents_sum xs ys) (exponents_sum as_ bs)
under_sum [] ys [] bs u v = v
under_sum [] [] (a ∷ as_) bs u v = tt
under_sum [] (y ∷ ys) (a ∷ as_) [] u v = (omega (arith, v.0), under_none ys as_ v.1)
under_sum [] (y ∷ ys) (a ∷ as_) (b ∷ bs) u v = (omega (arith, v.0), under_sum [] ys as_ bs tt v.1)
under_sum (x ∷ xs) [] [] [] u v = u
under_sum (x ∷ xs) [] [] (b ∷ bs) u v = (omega (arith, u.0), under_none xs bs u.1)
under_sum (x ∷ xs) [] (a ∷ as_) [] u v = u
under_sum (x ∷ xs) [] (a ∷ as_) (b ∷ bs) u v = (omega (arith, u.0), under_sum0 xs as_ bs u.1)
  where
    under_sum0 : (xs as_ bs : List ℕ) → AreUnder xs as_ → AreUnder xs (exponents_sum as_ bs)
    under_sum0 [] as_ bs u = tt
    under_sum0 (x ∷ xs) [] bs u = under_none (x ∷ xs) bs u
    under_sum0 (x ∷ xs) (a ∷ as_) [] u = u
    under_sum0 (x ∷ xs) (a ∷ as_) (b ∷ bs) u = (omega (arith, u.0), under_sum0 xs as_ bs u.1)
under_sum (x ∷ xs) (y ∷ ys) [] [] u v = (omega (arith, u.0, v.0), under_sum xs ys [] [] u.1 v.1)
under_sum (x ∷ xs) (y ∷ ys) [] (b ∷ bs) u v = (omega (arith, u.0, v.0), under_sum xs ys [] bs u.1 v.1)
under_sum (x ∷ xs) (y ∷ ys) (a ∷ as_) [] u v = (omega (arith, u.0, v.0), subst (AreUnder (exponents_sum xs ys)) (exponents_sum-none as_) (under_sum xs ys as_ [] u.1 v.1))
under_sum (x ∷ xs) (y ∷ ys) (a ∷ as_) (b ∷ bs) u v = (omega (arith, u.0, v.0), under_sum xs ys as_ bs u.1 v.1)

-- each entry's exponents are under these
abbrev pub AllUnder : List ℕ → Polynomial → Type 0
AllUnder ds [] = Unit {0}
AllUnder ds ((es, c) ∷ p) = AreUnder es ds × AllUnder ds p

all_under_max : (xs ys : List ℕ) (p : Polynomial) → AllUnder ys p → AllUnder (exponents_max xs ys) p
all_under_max xs ys [] a = tt
all_under_max xs ys ((es, c) ∷ p) a = (under_right es xs ys a.0, all_under_max xs ys p a.1)

pub under_degrees : (p : Polynomial) → AllUnder (degrees_of p) p
under_degrees [] = tt
under_degrees ((es, c) ∷ p) = (under_left es (degrees_of p), all_under_max es (degrees_of p) p (under_degrees p))

all_low-under : (ds : List ℕ) (p : Polynomial) → AllUnder ds p → are_low ds ≡ true → all_low p ≡ true
all_low-under ds [] a e = refl
all_low-under ds ((es, c) ∷ p) a e = both_true (low_under es ds a.0 e) (all_low-under ds p a.1 e)

all_under-multiple : (as_ bs es : List ℕ) (c : ℤ) (q : Polynomial) → AreUnder es as_ → AllUnder bs q → AllUnder (exponents_sum as_ bs) (multiple es c q)
all_under-multiple as_ bs es c [] u a = tt
all_under-multiple as_ bs es c ((fs, d) ∷ q) u a = (under_sum es fs as_ bs u a.0, all_under-multiple as_ bs es c q u a.1)

under-with_entry : (ds es : List ℕ) (c : ℤ) (p : Polynomial) → AreUnder es ds → AllUnder ds p → AllUnder ds (with_entry es c p)
under-with_entry ds es (pos zero) p u a = a
under-with_entry ds es (pos (suc k)) p u a = (u, a)
under-with_entry ds es (negsuc k) p u a = (u, a)

under-add_entry : (ds es : List ℕ) (c : ℤ) (p : Polynomial) → AreUnder es ds → AllUnder ds p → AllUnder ds (add_entry es c p)
under-add_entry ds es c [] u a = under-with_entry ds es c [] u tt
under-add_entry ds es c ((fs, d) ∷ p) u a =
    elim (monomial_cmp es fs) as (λ r. AllUnder ds (elim r [ Less ↦ (fs, d) ∷ add_entry es c p | Equal ↦ with_entry fs (c +ℤ d) p | Greater ↦ with_entry es c ((fs, d) ∷ p) ])) [
      | Less ↦ (a.0, under-add_entry ds es c p u a.1)
      | Equal ↦ under-with_entry ds fs (c +ℤ d) p a.0 a.1
      | Greater ↦ under-with_entry ds es c ((fs, d) ∷ p) u a
    ]

pub under-sum : (ds : List ℕ) (p q : Polynomial) → AllUnder ds p → AllUnder ds q → AllUnder ds (poly_sum p q)
under-sum ds [] q a b = b
under-sum ds ((es, c) ∷ p) q a b = under-add_entry ds es c (poly_sum p q) a.0 (under-sum ds p q a.1 b)

pub row-parts : (e : List ℕ) (c : ℤ) (q sum r : Polynomial) → bounded_row e c q sum ≡ Ok r → (are_bounded (poly_sum (multiple e c q) sum) ≡ true) × (nat_le (length (poly_sum (multiple e c q) sum)) MOST_TERMS ≡ true)
row-parts e c q sum r is =
    elim (are_bounded (multiple e c q)) as (λ b. elim b as (λ _. Result Polynomial Limit) [ false ↦ Err Bound | true ↦ bounded_sum (multiple e c q) sum ] ≡ Ok r → (are_bounded (poly_sum (multiple e c q) sum) ≡ true) × (nat_le (length (poly_sum (multiple e c q) sum)) MOST_TERMS ≡ true)) [
      | false ↦ λ e. absurd (cc)
      | true ↦ λ d. within-parts _ _ d
    ] is

-- ---- the rows
rows-within : (as_ bs : List ℕ) (p q sum r : Polynomial) → AllUnder as_ p → AllUnder bs q → IsDescending MOST_VARIABLES p → IsDescending MOST_VARIABLES q
    → IsDescending MOST_VARIABLES sum → AllUnder (exponents_sum as_ bs) sum → are_bounded sum ≡ true → nat_le (length sum) MOST_TERMS ≡ true
    → bounded_rows p q sum ≡ Ok r → are_low (exponents_sum as_ bs) ≡ true → Within r
rows-within as_ bs [] q sum r a b h k s u bounded short is low =
    subst Within (cc) record { descending = s; bounded = bounded; low = all_low-under (exponents_sum as_ bs) sum u low; short = short }
rows-within as_ bs ((es, c) ∷ p) q sum r a b h k s u bounded short is low =
    elim (bounded_row es c q sum) as (λ x. bounded_row es c q sum ≡ x → elim x as (λ _. Result Polynomial Limit) [ Err limit ↦ Err limit | Ok t ↦ bounded_rows p q t ] ≡ Ok r → Within r) [
      | Err limit ↦ λ w e. absurd (cc)
      | Ok t ↦ λ w e.
          let same : t ≡ add_multiple es c q sum = row-is es c q sum t w in
          let onto : t ≡ poly_sum (multiple es c q) sum = same ∙ add_multiple-is es c q sum in
          let parts = row-parts es c q sum t w in
          rows-within as_ bs p q t r a.1 b h.3 k
          (subst (IsDescending MOST_VARIABLES) (sym same) (descending-add_multiple MOST_VARIABLES es c q sum h.0 k s))
          (subst (AllUnder (exponents_sum as_ bs)) (sym onto) (under-sum _ (multiple es c q) sum (all_under-multiple as_ bs es c q a.0 b) u))
          (ap are_bounded onto ∙ parts.0) (ap (λ l. nat_le (length l) MOST_TERMS) onto ∙ parts.1) e low
    ] refl is

-- a product within the limits is a polynomial within the limits
pub bounded_product-standard : (p q r : Polynomial) → is_standard p ≡ true → is_standard q ≡ true → bounded_product p q ≡ Ok r → is_standard r ≡ true
bounded_product-standard p q r sp sq is =
    elim (degrees_fit p q) as (λ b. degrees_fit p q ≡ b → elim b as (λ _. Result Polynomial Limit) [ false ↦ Err Degree | true ↦ bounded_rows p q [] ] ≡ Ok r → is_standard r ≡ true) [
      | false ↦ λ w e. absurd (cc)
      | true ↦ λ w e.
          standard-of r (rows-within (degrees_of p) (degrees_of q) p q [] r (under_degrees p) (under_degrees q) (standard-descending p sp) (standard-descending q sq) tt tt refl refl e w)
    ] refl is

-- ---- sums
low-with_entry : (es : List ℕ) (c : ℤ) (p : Polynomial) → are_low es ≡ true → all_low p ≡ true → all_low (with_entry es c p) ≡ true
low-with_entry es (pos zero) p u a = a
low-with_entry es (pos (suc k)) p u a = both_true u a
low-with_entry es (negsuc k) p u a = both_true u a

low-add_entry : (es : List ℕ) (c : ℤ) (p : Polynomial) → are_low es ≡ true → all_low p ≡ true → all_low (add_entry es c p) ≡ true
low-add_entry es c [] u a = low-with_entry es c [] u refl
low-add_entry es c ((fs, d) ∷ p) u a =
    let here = (and_parts (are_low fs) (all_low p) a).0 in
    let rest = (and_parts (are_low fs) (all_low p) a).1 in
    elim (monomial_cmp es fs) as (λ r. all_low (elim r [ Less ↦ (fs, d) ∷ add_entry es c p | Equal ↦ with_entry fs (c +ℤ d) p | Greater ↦ with_entry es c ((fs, d) ∷ p) ]) ≡ true) [
      | Less ↦ both_true here (low-add_entry es c p u rest)
      | Equal ↦ low-with_entry fs (c +ℤ d) p here rest
      | Greater ↦ low-with_entry es c ((fs, d) ∷ p) u a
    ]

low-sum : (p q : Polynomial) → all_low p ≡ true → all_low q ≡ true → all_low (poly_sum p q) ≡ true
low-sum [] q a b = b
low-sum ((es, c) ∷ p) q a b = low-add_entry es c (poly_sum p q) ((and_parts (are_low es) (all_low p) a).0) (low-sum p q ((and_parts (are_low es) (all_low p) a).1) b)

-- a sum within the limits is a polynomial within the limits
pub bounded_sum-standard : (p q r : Polynomial) → is_standard p ≡ true → is_standard q ≡ true → bounded_sum p q ≡ Ok r → is_standard r ≡ true
bounded_sum-standard p q r sp sq e =
    let a = within-of p sp in
    let b = within-of q sq in
    let same = within-is (poly_sum p q) r e in
    let parts = within-parts (poly_sum p q) r e in
    ap is_standard same ∙ standard-of (poly_sum p q) record { descending = descending-sum MOST_VARIABLES p q a.descending b.descending; bounded = parts.0; low = low-sum p q a.low b.low; short = parts.1 }

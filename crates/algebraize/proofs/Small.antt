-- Sums, negatives, products and primitive parts of small polynomials are small.
use Rattle.std.proofs.Common.{◌≡◌, ◌≢◌, ℕ, ◌+◌, ◌*◌, ◌/◌, ◌<◌, ◌≤◌, zero, suc, List, [], ◌∷◌, ◌++◌, length, get_or, refl, ap, arith, Bool, true, false, nat_le, nat_lt, nat_eq}
use Rattle.std.specs.Prelude.{ℤ, pos, negsuc, ◌+ℤ◌, ◌*ℤ◌, neg_ℤ, unsigned_abs}
use Rattle.std.specs.Cmp.{first_so, second_so}
use Rattle.std.specs.Cmp.Derive.{both_true}
use Rattle.std.proofs.lemmas.Int.{ints}
use Rattle.std.proofs.lemmas.Bool.Decides.{nat_tests}
use mir.Syntax.{w128}
use mir.Val.{SFits}
use Rattle.std.specs.Ordering.{is_gt}
use Rattle.std.specs.declared.cmp.Ordering.TheVariants.{Less, Equal, Greater}
use Rattle.poly_model.specs.Polynomial.{Entry, Polynomial, monomial_cmp, IsAbove, IsDescending, with_entry, add_entry, add_multiple, exponents_sum, poly_sum, poly_negative, poly_difference, poly_product, poly_constant, poly_variable}
use Rattle.poly_model.specs.Content.{coefficients_gcd, begins_negative, signed_by, quotient_of, entries_divided, primitive_part}
use Rattle.poly_model.specs.Standard.{polynomial_of, are_low, is_above, are_descending, is_standard}
use Rattle.poly_model.specs.declared.term.Term.{Term}
use Rattle.poly_model.specs.declared.limits.TheConstants.{MOST_DEGREE, MOST_SIZE, MOST_TERMS, MOST_VARIABLES}
use Rattle.poly_model.proofs.Ordered.{descending-sum, descending-negative, descending-product, descending-variable, descending-constant, descending-primitive_part}
use Rattle.poly_model.proofs.Standing.{standard-descending}
use Rattle.algebraize.specs.Small.{weight, are_at_most, is_low, IsSmall}
use Rattle.algebraize.proofs.Every.{every-sum, every-negative, every-divided, is_low-more, is_low-product, are_none, are_one}

div-le : (a m : ℕ) → a / m ≤ a
div-le a m = omega arith

mul-le-mul : (a b c d : ℕ) → a ≤ b → c ≤ d → a * c ≤ b * d
mul-le-mul a b c d p q = grind arith

abs_add : (a b : ℤ) → unsigned_abs (a +ℤ b) ≤ unsigned_abs a + unsigned_abs b
abs_add a b = omega (arith, ints)

abs_neg : (a : ℤ) → unsigned_abs (neg_ℤ a) ≡ unsigned_abs a
abs_neg (pos zero) = refl
abs_neg (pos (suc n)) = refl
abs_neg (negsuc n) = refl

weight-with_entry : (es : List ℕ) (c : ℤ) (p : Polynomial) → weight (with_entry es c p) ≡ unsigned_abs c + weight p
weight-with_entry es (pos zero) p = omega arith
weight-with_entry es (pos (suc n)) p = refl
weight-with_entry es (negsuc n) p = refl

pub weight-add_entry : (es : List ℕ) (c : ℤ) (p : Polynomial) → weight (add_entry es c p) ≤ unsigned_abs c + weight p
weight-add_entry es c [] = omega (arith, weight-with_entry es c [])
weight-add_entry es c ((fs, d) ∷ p) =
    elim (monomial_cmp es fs) as (λ r. weight (elim r [ Less ↦ (fs, d) ∷ add_entry es c p | Equal ↦ with_entry fs (c +ℤ d) p | Greater ↦ with_entry es c ((fs, d) ∷ p) ])
    ≤ unsigned_abs c + (unsigned_abs d + weight p)) [
      | Less ↦ omega (arith, weight-add_entry es c p)
      | Equal ↦ omega (arith, weight-with_entry fs (c +ℤ d) p, abs_add c d)
      | Greater ↦ omega (arith, weight-with_entry es c ((fs, d) ∷ p))
    ]

pub weight-sum : (p q : Polynomial) → weight (poly_sum p q) ≤ weight p + weight q
weight-sum [] q = omega arith
weight-sum ((es, c) ∷ p) q = omega (arith, weight-add_entry es c (poly_sum p q), weight-sum p q)

pub weight-negative : (p : Polynomial) → weight (poly_negative p) ≡ weight p
weight-negative [] = refl
weight-negative ((es, c) ∷ p) = omega (arith, abs_neg c, weight-negative p)

pub weight-difference : (p q : Polynomial) → weight (poly_difference p q) ≤ weight p + weight q
weight-difference p q = omega (arith, weight-sum p (poly_negative q), weight-negative q)

pub abs_mul : (a b : ℤ) → unsigned_abs (a *ℤ b) ≡ unsigned_abs a * unsigned_abs b
abs_mul (pos a) (pos b) = omega (arith, ints)
abs_mul (pos a) (negsuc b) = omega (arith, ints)
abs_mul (negsuc a) (pos b) = omega (arith, ints)
abs_mul (negsuc a) (negsuc b) = omega (arith, ints)

pub part-bound : (a b w k : ℕ) → b ≤ w → a * w ≤ k → a * b ≤ k
part-bound a b w k p q = omega (arith, mul-le-mul a a b w (omega arith) p)

pub product-bound : (a b c d : ℕ) → a ≤ b → c ≤ d → a * c ≤ b * d
product-bound a b c d p q = mul-le-mul a b c d p q

pub product-fits : (a b : ℤ) (k : ℕ) → unsigned_abs b ≤ k → unsigned_abs a * k ≤ MOST_SIZE → SFits w128 (a *ℤ b)
product-fits a b k le size =
    let low = part-bound (unsigned_abs a) (unsigned_abs b) k MOST_SIZE le size in
    let e = abs_mul a b in
    omega (arith, ints, low, e)

pub distribute : (a b c : ℕ) → a * (b + c) ≡ a * b + a * c
distribute a b c = omega arith

pub weight-add_multiple : (es : List ℕ) (c : ℤ) (q r : Polynomial) → weight (add_multiple es c q r) ≤ unsigned_abs c * weight q + weight r
weight-add_multiple es c [] r = omega arith
weight-add_multiple es c ((fs, d) ∷ q) r =
    let one = weight-add_entry (exponents_sum es fs) (c *ℤ d) (add_multiple es c q r) in
    omega (arith, one, abs_mul c d, weight-add_multiple es c q r, distribute (unsigned_abs c) (unsigned_abs d) (weight q))

pub distribute_back : (a b c : ℕ) → (a + b) * c ≡ a * c + b * c
distribute_back a b c = omega arith

pub weight-product : (p q : Polynomial) → weight (poly_product p q) ≤ weight p * weight q
weight-product [] q = omega arith
weight-product ((es, c) ∷ p) q =
    omega (arith, weight-add_multiple es c q (poly_product p q), weight-product p q, distribute_back (unsigned_abs c) (weight p) (weight q))

-- the weight of a list of terms with one more behind it
pub weight-last : (p : List Term) (t : Term) → weight (polynomial_of (p ++ t ∷ [])) ≡ weight (polynomial_of p) + unsigned_abs t.coef
weight-last [] t = omega arith
weight-last (x ∷ p) t = omega (arith, weight-last p t)

pub weight-at : (ts : List Term) (i : ℕ) (t : Term) → i < length ts → t ≡ get_or ts i t → unsigned_abs t.coef ≤ weight (polynomial_of ts)
weight-at [] i t below is = absurd (omega arith)
weight-at (x ∷ ts) zero t below is = omega (arith, ap (λ (y : Term). unsigned_abs y.coef) is)
weight-at (x ∷ ts) (suc i) t below is = omega (arith, weight-at ts i t (omega arith) is)

abs-signed : (s : Bool) (z : ℤ) → unsigned_abs (signed_by s z) ≡ unsigned_abs z
abs-signed true z = abs_neg z
abs-signed false z = refl

pub size-quotient : (c : ℤ) (m : ℕ) → unsigned_abs (quotient_of c m) ≡ unsigned_abs c / m
size-quotient (pos a) m = refl
size-quotient (negsuc a) m = abs_neg (pos (suc a / m))

pub abs-quotient : (c : ℤ) (m : ℕ) → unsigned_abs (quotient_of c m) ≤ unsigned_abs c
abs-quotient c m = omega (arith, size-quotient c m, div-le (unsigned_abs c) m)

weight-divided : (s : Bool) (m : ℕ) (p : Polynomial) → weight (entries_divided s m p) ≤ weight p
weight-divided s m [] = omega arith
weight-divided s m ((es, c) ∷ p) = omega (arith, abs-signed s (quotient_of c m), abs-quotient c m, weight-divided s m p)

-- Lengths.
pub length-with_entry : (es : List ℕ) (c : ℤ) (p : Polynomial) → length (with_entry es c p) ≤ suc (length p)
length-with_entry es (pos zero) p = omega arith
length-with_entry es (pos (suc n)) p = omega arith
length-with_entry es (negsuc n) p = omega arith

pub length-add_entry : (es : List ℕ) (c : ℤ) (p : Polynomial) → length (add_entry es c p) ≤ suc (length p)
length-add_entry es c [] = length-with_entry es c []
length-add_entry es c ((fs, d) ∷ p) =
    elim (monomial_cmp es fs) as (λ r. length {A = Entry} (elim r [ Less ↦ (fs, d) ∷ add_entry es c p | Equal ↦ with_entry fs (c +ℤ d) p | Greater ↦ with_entry es c ((fs, d) ∷ p) ])
    ≤ suc (suc (length p))) [
      | Less ↦ omega (arith, length-add_entry es c p)
      | Equal ↦ omega (arith, length-with_entry fs (c +ℤ d) p)
      | Greater ↦ omega (arith, length-with_entry es c ((fs, d) ∷ p))
    ]

pub length-sum : (p q : Polynomial) → length (poly_sum p q) ≤ length p + length q
length-sum [] q = omega arith
length-sum ((es, c) ∷ p) q = omega (arith, length-add_entry es c (poly_sum p q), length-sum p q)

pub length-negative : (p : Polynomial) → length (poly_negative p) ≡ length p
length-negative [] = refl
length-negative ((es, c) ∷ p) = ap suc (length-negative p)

pub length-difference : (p q : Polynomial) → length (poly_difference p q) ≤ length p + length q
length-difference p q = omega (arith, length-sum p (poly_negative q), length-negative q)

length-divided : (s : Bool) (m : ℕ) (p : Polynomial) → length (entries_divided s m p) ≡ length p
length-divided s m [] = refl
length-divided s m ((es, c) ∷ p) = ap suc (length-divided s m p)

pub length-primitive_part : (p : Polynomial) → length (primitive_part p) ≡ length p
length-primitive_part p = length-divided (begins_negative p) (coefficients_gcd p) p

-- Small polynomials are within the limits.
some_abs : (c : ℤ) → c ≢ pos 0 → 0 < unsigned_abs c
some_abs (pos zero) n = absurd (n refl)
some_abs (pos (suc k)) n = omega arith
some_abs (negsuc k) n = omega arith

pub length-weight : (n : ℕ) (p : Polynomial) → IsDescending n p → length p ≤ weight p
length-weight n [] h = omega arith
length-weight n ((es, c) ∷ p) h = omega (arith, some_abs c h.1, length-weight n p h.3)

above_test : (e : Entry) (p : Polynomial) → IsAbove e.0 p → is_above e p ≡ true
above_test e [] a = refl
above_test e ((fs, c) ∷ p) a = ap is_gt a.0

eq_true : (a b : ℕ) → a ≡ b → nat_eq a b ≡ true
eq_true a b e = grind (arith, nat_tests)

pub le_true : (a b : ℕ) → a ≤ b → nat_le a b ≡ true
le_true a b le = grind (arith, nat_tests)

lt_true : (a b : ℕ) → a < b → nat_lt a b ≡ true
lt_true a b lt = grind (arith, nat_tests)

descending_test : (p : Polynomial) → IsDescending MOST_VARIABLES p → is_low MOST_DEGREE p ≡ true → weight p ≤ MOST_SIZE → are_descending p ≡ true
descending_test [] h a b = refl
descending_test ((es, c) ∷ p) h a b =
    both_true
    (both_true (both_true (eq_true _ _ h.0) (both_true (lt_true 0 (unsigned_abs c) (some_abs c h.1)) (le_true (unsigned_abs c) MOST_SIZE (omega arith)))) (first_so (are_low es) (is_low MOST_DEGREE p) a))
    (both_true (above_test (es, c) p h.2) (descending_test p h.3 (second_so (are_low es) (is_low MOST_DEGREE p) a) (omega arith)))

-- A descending polynomial within the limits is standard.
pub standard : (p : Polynomial) → IsDescending MOST_VARIABLES p → is_low MOST_DEGREE p ≡ true → weight p ≤ MOST_SIZE → length p ≤ MOST_TERMS → is_standard p ≡ true
standard p h a b t = both_true (le_true (length p) MOST_TERMS t) (descending_test p h a b)

pub small_terms : (d w : ℕ) (p : Polynomial) → IsSmall d w p → length p ≤ w
small_terms d w p s = omega (arith, length-weight MOST_VARIABLES p (standard-descending p s.standard), s.weight)

-- Small polynomials.
pub small-of : (d w : ℕ) (p : Polynomial) → d ≤ MOST_DEGREE → w ≤ MOST_TERMS → IsDescending MOST_VARIABLES p → is_low d p ≡ true → weight p ≤ w → IsSmall d w p
small-of d w p ld lw h a b = record {
  standard = standard p h (is_low-more d MOST_DEGREE p ld a) (omega arith) (omega (arith, length-weight MOST_VARIABLES p h));
  low = a;
  weight = b;
}

pub small-more : (d e w v : ℕ) (p : Polynomial) → d ≤ e → w ≤ v → IsSmall d w p → IsSmall e v p
small-more d e w v p ld lw s = record { standard = s.standard; low = is_low-more d e p ld s.low; weight = omega (arith, s.weight) }

pub small-zero : (d w : ℕ) → IsSmall d w []
small-zero d w = record { standard = refl; low = refl; weight = omega arith }

pub small-sum : (d w v : ℕ) (p q : Polynomial) → d ≤ MOST_DEGREE → w + v ≤ MOST_TERMS → IsSmall d w p → IsSmall d v q → IsSmall d (w + v) (poly_sum p q)
small-sum d w v p q ld lw s t =
    small-of d (w + v) (poly_sum p q) ld lw
    (descending-sum MOST_VARIABLES p q (standard-descending p s.standard) (standard-descending q t.standard))
    (every-sum (are_at_most d) p q s.low t.low)
    (omega (arith, weight-sum p q, s.weight, t.weight))

pub small-negative : (d w : ℕ) (p : Polynomial) → d ≤ MOST_DEGREE → w ≤ MOST_TERMS → IsSmall d w p → IsSmall d w (poly_negative p)
small-negative d w p ld lw s =
    small-of d w (poly_negative p) ld lw (descending-negative MOST_VARIABLES p (standard-descending p s.standard))
    (every-negative (are_at_most d) p s.low) (omega (arith, weight-negative p, s.weight))

pub small-difference : (d w v : ℕ) (p q : Polynomial) → d ≤ MOST_DEGREE → w + v ≤ MOST_TERMS → IsSmall d w p → IsSmall d v q → IsSmall d (w + v) (poly_difference p q)
small-difference d w v p q ld lw s t = small-sum d w v p (poly_negative q) ld lw s (small-negative d v q ld (omega arith) t)

pub small-product : (d e w v : ℕ) (p q : Polynomial) → d + e ≤ MOST_DEGREE → w * v ≤ MOST_TERMS → IsSmall d w p → IsSmall e v q → IsSmall (d + e) (w * v) (poly_product p q)
small-product d e w v p q ld lw s t =
    small-of (d + e) (w * v) (poly_product p q) ld lw
    (descending-product MOST_VARIABLES p q (standard-descending p s.standard) (standard-descending q t.standard))
    (is_low-product d e p q s.low t.low)
    (omega (arith, weight-product p q, mul-le-mul (weight p) w (weight q) v s.weight t.weight))

pub small-variable : (i : ℕ) → IsSmall 1 1 (poly_variable MOST_VARIABLES i)
small-variable i =
    small-of 1 1 (poly_variable MOST_VARIABLES i) (omega arith) (omega arith) (descending-variable MOST_VARIABLES i)
    (both_true (are_one i MOST_VARIABLES) refl) (omega arith)

pub small-one : IsSmall 2 64 (poly_constant MOST_VARIABLES (pos 1))
small-one =
    small-of 2 64 (poly_constant MOST_VARIABLES (pos 1)) (omega arith) (omega arith) (descending-constant MOST_VARIABLES (pos 1))
    (both_true (are_none 2 MOST_VARIABLES) refl) (omega arith)

pub standard-primitive_part : (p : Polynomial) → IsSmall MOST_DEGREE MOST_SIZE p → is_standard (primitive_part p) ≡ true
standard-primitive_part p s =
    standard (primitive_part p) (descending-primitive_part MOST_VARIABLES p (standard-descending p s.standard))
    (every-divided (are_at_most MOST_DEGREE) (begins_negative p) (coefficients_gcd p) p s.low)
    (omega (arith, weight-divided (begins_negative p) (coefficients_gcd p) p, s.weight))
    (omega (arith, length-primitive_part p, short p s.standard))
  where
    le_of : (a b : ℕ) → nat_le a b ≡ true → a ≤ b
    le_of a b h = grind (arith, nat_tests)

    short : (p : Polynomial) → is_standard p ≡ true → length p ≤ MOST_TERMS
    short p h = le_of (length p) MOST_TERMS (first_so (nat_le (length p) MOST_TERMS) (are_descending p) h)

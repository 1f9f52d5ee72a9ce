-- The sizes of the equations of a point that divides a segment.
use Rattle.std.proofs.Common.{◌≡◌, ◌≢◌, ◌≤◌, ◌+◌, ◌*◌, ℕ, zero, suc, [], ◌∷◌, length, sym, ◌∙◌, ap, subst, arith, refl, true}
use Rattle.std.specs.Prelude.{ℤ, pos, negsuc, unsigned_abs}
use Rattle.poly_model.specs.Domain.{integer_in}
use Rattle.poly_model.specs.Polynomial.{Entry, Polynomial, IsDescending, poly_difference, poly_negative, poly_product, poly_scaled}
use Rattle.poly_model.specs.declared.limits.TheConstants.{MOST_DEGREE, MOST_SIZE, MOST_TERMS, MOST_VARIABLES}
use Rattle.poly_model.proofs.Standing.{standard-descending}
use Rattle.poly_model.proofs.Ordered.{descending-difference}
use Rattle.algebraize.specs.Equations.{polynomials}
use Rattle.algebraize.specs.declared.ratio.TheConstants.{MILLIONTHS, MOST_MILLIONTHS}
use Rattle.algebraize.specs.Small.{weight, are_at_most, is_low, IsSmall}
use Rattle.algebraize.proofs.Every.{every-sum, every-negative, every-scaled, is_low-more}
use Rattle.algebraize.proofs.Multiples.{descending-scaled, multiple-some}
use Rattle.algebraize.proofs.Small as small

-- A polynomial of degree 1 with at most so many terms and so much weight.
pub record IsLinear (n w : ℕ) (p : Polynomial) : Type 0 where
  pub descending : IsDescending MOST_VARIABLES p
  pub low : is_low 1 p ≡ true
  pub terms : length p ≤ n
  pub weight : weight p ≤ w

pub linear_of : (w : ℕ) (p : Polynomial) → IsSmall 1 w p → IsLinear w w p
linear_of w p s = record { descending = standard-descending p s.standard; low = s.low; terms = small.small_terms 1 w p s; weight = s.weight }

pub linear_difference : (m n w v : ℕ) (p q : Polynomial) → IsLinear m w p → IsLinear n v q → IsLinear (m + n) (w + v) (poly_difference p q)
linear_difference m n w v p q s t = record {
  descending = descending-difference MOST_VARIABLES p q s.descending t.descending;
  low = every-sum (are_at_most 1) p (poly_negative q) s.low (every-negative (are_at_most 1) q t.low);
  terms = omega (arith, small.length-difference p q, s.terms, t.terms);
  weight = omega (arith, small.weight-difference p q, s.weight, t.weight);
}

weight-scaled : (z : ℤ) (p : Polynomial) → weight (poly_scaled z p) ≡ unsigned_abs z * weight p
weight-scaled z [] = omega arith
weight-scaled z ((es, c) ∷ p) = omega (arith, small.abs_mul z c, weight-scaled z p, small.distribute (unsigned_abs z) (unsigned_abs c) (weight p))

length-scaled : (z : ℤ) (p : Polynomial) → length (poly_scaled z p) ≡ length p
length-scaled z [] = refl
length-scaled z ((es, c) ∷ p) = ap suc (length-scaled z p)

some_multiple : (z : ℤ) (n w : ℕ) (p : Polynomial) → z ≢ pos 0 → IsLinear n w p → IsLinear n (unsigned_abs z * w) (poly_product (integer_in polynomials z) p)
some_multiple z n w p some s =
    let is = multiple-some z p some s.descending in
    record {
      descending = subst (IsDescending MOST_VARIABLES) (sym is) (descending-scaled MOST_VARIABLES z p some s.descending);
      low = ap (is_low 1) is ∙ every-scaled (are_at_most 1) z p s.low;
      terms = omega (arith, ap (length {A = Entry}) is, length-scaled z p, s.terms);
      weight = omega (arith, ap weight is, weight-scaled z p, small.product-bound (unsigned_abs z) (unsigned_abs z) (weight p) w (omega arith) s.weight);
    }

pub linear_multiple : (z : ℤ) (n w : ℕ) (p : Polynomial) → IsLinear n w p → IsLinear n (unsigned_abs z * w) (poly_product (integer_in polynomials z) p)
linear_multiple (pos zero) n w p s = record { descending = tt; low = refl; terms = omega arith; weight = omega arith }
linear_multiple (pos (suc k)) n w p s = some_multiple (pos (suc k)) n w p (λ e. cc) s
linear_multiple (negsuc k) n w p s = some_multiple (negsuc k) n w p (λ e. cc) s

-- d*x - d*a - n*(b - a)
pub divided : (d n : ℤ) (x a b : Polynomial) → IsSmall 1 1 x → IsSmall 1 1 a → IsSmall 1 1 b
    → IsLinear 4 (unsigned_abs d * 1 + unsigned_abs d * 1 + unsigned_abs n * 2)
    (poly_difference (poly_difference (poly_product (integer_in polynomials d) x) (poly_product (integer_in polynomials d) a)) (poly_product (integer_in polynomials n) (poly_difference b a)))
divided d n x a b sx sa sb =
    linear_difference 2 2 (unsigned_abs d * 1 + unsigned_abs d * 1) (unsigned_abs n * 2) _ _
    (linear_difference 1 1 (unsigned_abs d * 1) (unsigned_abs d * 1) _ _ (linear_multiple d 1 1 x (linear_of 1 x sx)) (linear_multiple d 1 1 a (linear_of 1 a sa)))
    (linear_multiple n 2 2 (poly_difference b a) (linear_difference 1 1 1 1 b a (linear_of 1 b sb) (linear_of 1 a sa)))

pub small_linear : (n w : ℕ) (p : Polynomial) → n ≤ MOST_TERMS → w ≤ MOST_SIZE → IsLinear n w p → IsSmall MOST_DEGREE MOST_SIZE p
small_linear n w p ln lw s =
    let low = is_low-more 1 MOST_DEGREE p (omega arith) s.low in
    record {
      standard = small.standard p s.descending low (omega (arith, s.weight)) (omega (arith, s.terms));
      low = low;
      weight = omega (arith, s.weight);
    }

-- what the steps towards it weigh
pub weights : (d n : ℤ) (x a b : Polynomial) → unsigned_abs d ≤ MILLIONTHS → unsigned_abs n ≤ MOST_MILLIONTHS → IsSmall 1 1 x → IsSmall 1 1 a → IsSmall 1 1 b
    → (weight (poly_product (integer_in polynomials d) x) + weight (poly_product (integer_in polynomials d) a) ≤ MOST_SIZE)
    × (weight (poly_difference (poly_product (integer_in polynomials d) x) (poly_product (integer_in polynomials d) a)) + weight (poly_product (integer_in polynomials n) (poly_difference b a)) ≤ MOST_SIZE)
    × (unsigned_abs n * weight (poly_difference b a) ≤ MOST_SIZE)
weights d n x a b ld ln sx sa sb =
    let dx = linear_multiple d 1 1 x (linear_of 1 x sx) in
    let da = linear_multiple d 1 1 a (linear_of 1 a sa) in
    let ba = linear_difference 1 1 1 1 b a (linear_of 1 b sb) (linear_of 1 a sa) in
    let nab = linear_multiple n 2 2 (poly_difference b a) ba in
    let both = linear_difference 1 1 (unsigned_abs d * 1) (unsigned_abs d * 1) _ _ dx da in (
      omega (arith, ld, dx.weight, da.weight),
      omega (arith, ld, ln, both.weight, nab.weight),
      omega (arith, ln, small.product-bound (unsigned_abs n) (unsigned_abs n) (weight (poly_difference b a)) 2 (omega arith) ba.weight),
    )

pub divided_small : (d n : ℤ) (x a b : Polynomial) → unsigned_abs d ≤ MILLIONTHS → unsigned_abs n ≤ MOST_MILLIONTHS → IsSmall 1 1 x → IsSmall 1 1 a → IsSmall 1 1 b
    → IsSmall MOST_DEGREE MOST_SIZE
    (poly_difference (poly_difference (poly_product (integer_in polynomials d) x) (poly_product (integer_in polynomials d) a)) (poly_product (integer_in polynomials n) (poly_difference b a)))
divided_small d n x a b ld ln sx sa sb = small_linear 4 _ _ (omega arith) (omega (arith, ld, ln)) (divided d n x a b sx sa sb)

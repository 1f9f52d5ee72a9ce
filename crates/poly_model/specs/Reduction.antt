-- Class, degree, initial and tail of a polynomial, and the elementary reduction of one polynomial by another. Variables
-- are counted from 1 as classes, and from 0 as places of exponents: class x is at place x - 1.
use Rattle.std.specs.Prelude.{ℕ, zero, suc, ◌+◌, ◌-◌, max, ℤ, pos, List, [], ◌∷◌, get_or, set, map, Bool, true, false, cond, if◌then◌else◌, ◌&&◌, not, ◌==◌, nat_le}
use Rattle.std.specs.List.{list_any}
use Rattle.std.specs.Ordering.{int_eq, is_eq}
use Rattle.poly_model.specs.Domain.{integers}
use Rattle.poly_model.specs.Polynomial.{Entry, Polynomial, monomial_cmp, sum_over, poly_product, poly_difference}
use Rattle.poly_model.specs.Content.{content, primitive_part}

-- The two are the same entry, the same polynomial.
abbrev pub same_entry : Entry → Entry → Bool
same_entry (es, c) (fs, d) = is_eq (monomial_cmp es fs) && int_eq c d

abbrev pub same : Polynomial → Polynomial → Bool
same [] [] = true
same [] (f ∷ q) = false
same (e ∷ p) [] = false
same (e ∷ p) (f ∷ q) = same_entry e f && same p q

-- The list has the polynomial.
abbrev pub has_polynomial : List Polynomial → Polynomial → Bool
has_polynomial ps p = list_any (same p) ps

-- The degree in the variable at a place.
abbrev pub degree_at : ℕ → Polynomial → ℕ
degree_at i [] = 0
degree_at i ((es, c) ∷ p) = max (get_or es i 0) (degree_at i p)

-- The class of a monomial: the number of its greatest variable, and 0 where it has none.
abbrev pub monomial_class : List ℕ → ℕ
monomial_class [] = 0
monomial_class (e ∷ es) = elim (monomial_class es) [ zero ↦ if e == 0 then 0 else 1 | suc k ↦ suc (suc k) ]

-- The class of a polynomial: the number of its greatest variable, and 0 for a constant.
abbrev pub class_of : Polynomial → ℕ
class_of [] = 0
class_of ((es, c) ∷ p) = max (monomial_class es) (class_of p)

abbrev pub is_constant : Polynomial → Bool
is_constant p = class_of p == 0

-- The sum of the coefficients: of a constant, its number.
abbrev pub number_of : Polynomial → ℤ
number_of p = sum_over integers (λ es c. c) p

abbrev pub is_zero : Polynomial → Bool
is_zero p = is_constant p && int_eq (number_of p) (pos 0)

abbrev pub is_nonzero_constant : Polynomial → Bool
is_nonzero_constant p = is_constant p && not (int_eq (number_of p) (pos 0))

-- The coefficient of the power d of the variable at a place.
abbrev pub coefficient_at : ℕ → ℕ → Polynomial → Polynomial
coefficient_at i d [] = []
coefficient_at i d ((es, c) ∷ p) = cond (get_or es i 0 == d) ((set es i 0, c) ∷ coefficient_at i d p) (coefficient_at i d p)

-- The polynomial without its terms of degree d in the variable at a place.
abbrev pub without_degree : ℕ → ℕ → Polynomial → Polynomial
without_degree i d [] = []
without_degree i d ((es, c) ∷ p) = cond (get_or es i 0 == d) (without_degree i d p) ((es, c) ∷ without_degree i d p)

-- The place of the greatest variable, and the degree in it.
abbrev pub main_place : Polynomial → ℕ
main_place p = class_of p - 1

abbrev pub main_degree : Polynomial → ℕ
main_degree p = degree_at (main_place p) p

-- The initial: the coefficient of the highest power of the greatest variable. The tail: the other terms.
abbrev pub initial_of : Polynomial → Polynomial
initial_of p = coefficient_at (main_place p) (main_degree p) p

abbrev pub tail_of : Polynomial → Polynomial
tail_of p = without_degree (main_place p) (main_degree p) p

-- g reaches the degree of f in the greatest variable of f.
abbrev pub reaches : Polynomial → Polynomial → Bool
reaches g f = nat_le (main_degree f) (degree_at (main_place f) g)

abbrev pub primitive_initial : Polynomial → Polynomial
primitive_initial p = primitive_part (initial_of p)

abbrev pub primitive_tail : Polynomial → Polynomial
primitive_tail p = primitive_part (tail_of p)

-- A polynomial times the k-th power of the variable at a place.
abbrev pub shifted : ℕ → ℕ → Polynomial → Polynomial
shifted i k p = map (λ (e : Entry). (set e.0 i (get_or e.0 i 0 + k), e.1)) p

-- What the highest power in g of the greatest variable x of f is cancelled with: c*x^(e-d), where f has degree d in x,
-- and g has degree e and there the coefficient c.
abbrev pub factor_of : Polynomial → Polynomial → Polynomial
factor_of g f =
    let i = main_place f in
    let e = degree_at i g in
    shifted i (e - main_degree f) (coefficient_at i e g)

-- What is left of g: I*g - c*x^(e-d)*f, with the initial I of f.
abbrev pub cross_difference : Polynomial → Polynomial → Polynomial
cross_difference g f = poly_difference (poly_product (initial_of f) g) (poly_product (factor_of g f) f)

-- The multiplier of a difference: its content, and 1 for 0.
abbrev pub multiplier_of : Polynomial → ℤ
multiplier_of [] = pos 1
multiplier_of (e ∷ t) = content (e ∷ t)

-- A difference as its multiplier and its primitive part.
abbrev pub parts_of : Polynomial → ℤ × Polynomial
parts_of t = (multiplier_of t, primitive_part t)

-- The elementary reduction of g by f: I*g - c*x^(e-d)*f = m*r, with r primitive.
abbrev pub reduction_of : Polynomial → Polynomial → ℤ × Polynomial
reduction_of g f = parts_of (cross_difference g f)

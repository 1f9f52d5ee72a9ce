-- The fraction of a term, what an equality of two terms says of places, and its conclusion.
use Rattle.std.specs.Prelude.{◌≡◌, List, [], ◌∷◌, ◌++◌, map, cond, ◌⊎◌}
use Rattle.poly_model.specs.Domain.{Operations, natural_in}
use Rattle.poly_model.specs.Polynomial.{Polynomial, polynomial_operations, poly_product}
use Rattle.poly_model.specs.Content.{primitive_part}
use Rattle.poly_model.specs.Reduction.{has_polynomial}
use Rattle.poly_model.specs.declared.limits.TheConstants.{MOST_VARIABLES}
use Rattle.ratio_terms.specs.Terms.{Term, Whole, Area, Pythagoras, Ratio, Sum, Product}
use Rattle.ratio_eq.specs.Vectors.{Vector, minus, dot, cross, sq}

-- The ring of polynomials in the variables that a problem may have.
abbrev pub polynomials : Operations Polynomial
polynomials = polynomial_operations MOST_VARIABLES

-- A numerator and a denominator.
pub record Fraction (M : Type 0) : Type 0 where
  pub over : M
  pub under : M

abbrev pub over_one : {M : Type 0} → Operations M → M → Fraction M
over_one o n = record { over = n; under = o.one }

-- n/d + m/e is (n*e + m*d)/(d*e), and n/d * m/e is (n*m)/(d*e).
abbrev pub fraction_sum : {M : Type 0} → Operations M → Fraction M → Fraction M → Fraction M
fraction_sum o x y = record { over = o.add (o.mul x.over y.under) (o.mul y.over x.under); under = o.mul x.under y.under }

abbrev pub fraction_product : {M : Type 0} → Operations M → Fraction M → Fraction M → Fraction M
fraction_product o x y = record { over = o.mul x.over y.over; under = o.mul x.under y.under }

-- The fraction of a term over places: twice the area of a triangle over 2; the difference of squares of Pythagoras; and
-- the ratio of two parallel vectors, which is their product over the square of the second.
abbrev pub fraction_of : {M : Type 0} → Operations M → Term (Vector M) → Fraction M
fraction_of o (Whole k) = over_one o (natural_in o k)
fraction_of o (Area a b c) = record { over = cross o (minus o b a) (minus o c a); under = natural_in o 2 }
fraction_of o (Pythagoras a b c) =
    over_one o (o.add (o.add (sq o (minus o a b)) (sq o (minus o c b))) (o.neg (sq o (minus o c a))))
fraction_of o (Ratio a b c d) = record { over = dot o (minus o b a) (minus o d c); under = sq o (minus o d c) }
fraction_of o (Sum s t) = fraction_sum o (fraction_of o s) (fraction_of o t)
fraction_of o (Product s t) = fraction_product o (fraction_of o s) (fraction_of o t)

-- The squares by which a term divides, in their order.
abbrev pub squares_of : {M : Type 0} → Operations M → Term (Vector M) → List M
squares_of o (Whole k) = []
squares_of o (Area a b c) = []
squares_of o (Pythagoras a b c) = []
squares_of o (Ratio a b c d) = sq o (minus o d c) ∷ []
squares_of o (Sum s t) = squares_of o s ++ squares_of o t
squares_of o (Product s t) = squares_of o s ++ squares_of o t

-- By how much n/d passes m/e, times both denominators.
abbrev pub cross_of : {M : Type 0} → Operations M → Fraction M → Fraction M → M
cross_of o x y = o.add (o.mul x.over y.under) (o.neg (o.mul y.over x.under))

-- Some of these members is zero.
abbrev pub SomeZero : {M : Type 0} → Operations M → List M → Type 0
SomeZero o [] = ⊥
SomeZero o (x ∷ xs) = (x ≡ o.zero) ⊎ SomeZero o xs

-- The fractions of two terms are equal, or a square by which one of them divides is zero: a denominator is a condition
-- of the statement itself.
abbrev pub MeetsEqual : {M : Type 0} → Operations M → Term (Vector M) → Term (Vector M) → Type 0
MeetsEqual o s t = SomeZero o (squares_of o s ++ squares_of o t) ⊎ (cross_of o (fraction_of o s) (fraction_of o t) ≡ o.zero)

-- A polynomial behind the others, unless it is one of them.
abbrev pub with_new : List Polynomial → Polynomial → List Polynomial
with_new seen p = cond (has_polynomial seen p) seen (seen ++ p ∷ [])

-- Those of a list that are not among the ones seen, each once and in order, behind these.
abbrev pub once_behind : List Polynomial → List Polynomial → List Polynomial
once_behind seen [] = seen
once_behind seen (p ∷ ps) = once_behind (with_new seen p) ps

-- The primitive parts of a list, equal ones once.
abbrev pub parts_once : List Polynomial → List Polynomial
parts_once ps = once_behind [] (map primitive_part ps)

-- A polynomial times each of a list, in order.
abbrev pub product_onto : Polynomial → List Polynomial → Polynomial
product_onto p [] = p
product_onto p (q ∷ qs) = product_onto (poly_product p q) qs

-- The conclusion of an equality: the difference of the fractions times both denominators, and the squares by which the
-- terms divide, of each the primitive part, multiplied.
abbrev pub conclusion_of : Term (Vector Polynomial) → Term (Vector Polynomial) → Polynomial
conclusion_of s t =
    primitive_part (product_onto (primitive_part (cross_of polynomials (fraction_of polynomials s) (fraction_of polynomials t)))
    (parts_once (squares_of polynomials s ++ squares_of polynomials t)))

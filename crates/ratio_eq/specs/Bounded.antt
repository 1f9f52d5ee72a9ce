-- The conclusion of an equality within the limits, or the limit that is met first: the first term is formed whole, then
-- the second; in each the numerator before the denominator; then the two products, their difference, and the product
-- with each square in turn.
use Rattle.std.specs.Prelude.{List, [], ◌∷◌, ◌++◌, Result, Ok}
use Rattle.poly_model.specs.Domain.{natural_in}
use Rattle.poly_model.specs.Polynomial.{Polynomial}
use Rattle.poly_model.specs.Content.{primitive_part}
use Rattle.poly_model.specs.Bounded.{bounded_sum, bounded_difference, bounded_product, and_then}
use Rattle.poly_model.specs.declared.limits.Limit.{Limit}
use Rattle.ratio_terms.specs.declared.part.Part.{Part}
use Rattle.ratio_terms.specs.Terms.{Term, Whole, Area, Pythagoras, Ratio, Sum, Product, terms_of}
use Rattle.ratio_eq.specs.Vectors.{Vector}
use Rattle.ratio_eq.specs.Fractions.{polynomials, parts_once}

-- ---- vectors
abbrev pub bounded_minus : Vector Polynomial → Vector Polynomial → Result (Vector Polynomial) Limit
bounded_minus p q = and_then (bounded_difference p.0 q.0) (λ x. and_then (bounded_difference p.1 q.1) (λ y. Ok (x, y)))

abbrev pub bounded_dot : Vector Polynomial → Vector Polynomial → Result Polynomial Limit
bounded_dot p q = and_then (bounded_product p.0 q.0) (λ x. and_then (bounded_product p.1 q.1) (λ y. bounded_sum x y))

abbrev pub bounded_crossing : Vector Polynomial → Vector Polynomial → Result Polynomial Limit
bounded_crossing p q = and_then (bounded_product p.0 q.1) (λ x. and_then (bounded_product p.1 q.0) (λ y. bounded_difference x y))

-- The square of the vector from q to p.
abbrev pub bounded_square : Vector Polynomial → Vector Polynomial → Result Polynomial Limit
bounded_square p q = and_then (bounded_minus p q) (λ u. bounded_dot u u)

-- ---- fractions, with the squares by which their terms divide
pub record Formed : Type 0 where
  pub over : Polynomial
  pub under : Polynomial
  pub squares : List Polynomial

abbrev pub formed_over_one : Polynomial → Formed
formed_over_one n = record { over = n; under = polynomials.one; squares = [] }

abbrev pub bounded_area : Vector Polynomial → Vector Polynomial → Vector Polynomial → Result Formed Limit
bounded_area a b c =
    and_then (bounded_minus b a) (λ u. and_then (bounded_minus c a) (λ v. and_then (bounded_crossing u v) (λ n.
    Ok (record { over = n; under = natural_in polynomials 2; squares = [] }))))

abbrev pub bounded_pythagoras : Vector Polynomial → Vector Polynomial → Vector Polynomial → Result Formed Limit
bounded_pythagoras a b c =
    and_then (bounded_square a b) (λ x. and_then (bounded_square c b) (λ y. and_then (bounded_sum x y) (λ s.
    and_then (bounded_square c a) (λ z. and_then (bounded_difference s z) (λ n. Ok (formed_over_one n))))))

abbrev pub bounded_ratio : Vector Polynomial → Vector Polynomial → Vector Polynomial → Vector Polynomial → Result Formed Limit
bounded_ratio a b c d =
    and_then (bounded_minus b a) (λ u. and_then (bounded_minus d c) (λ v. and_then (bounded_dot u v) (λ n.
    and_then (bounded_dot v v) (λ m. Ok (record { over = n; under = m; squares = m ∷ [] })))))

abbrev pub bounded_fraction_sum : Formed → Formed → Result Formed Limit
bounded_fraction_sum x y =
    and_then (bounded_product x.over y.under) (λ a. and_then (bounded_product y.over x.under) (λ b. and_then (bounded_sum a b) (λ n.
    and_then (bounded_product x.under y.under) (λ m. Ok (record { over = n; under = m; squares = x.squares ++ y.squares })))))

abbrev pub bounded_fraction_product : Formed → Formed → Result Formed Limit
bounded_fraction_product x y =
    and_then (bounded_product x.over y.over) (λ n. and_then (bounded_product x.under y.under) (λ m.
    Ok (record { over = n; under = m; squares = x.squares ++ y.squares })))

abbrev pub bounded_fraction : Term (Vector Polynomial) → Result Formed Limit
bounded_fraction (Whole k) = Ok (formed_over_one (natural_in polynomials k))
bounded_fraction (Area a b c) = bounded_area a b c
bounded_fraction (Pythagoras a b c) = bounded_pythagoras a b c
bounded_fraction (Ratio a b c d) = bounded_ratio a b c d
bounded_fraction (Sum s t) = and_then (bounded_fraction s) (λ x. and_then (bounded_fraction t) (λ y. bounded_fraction_sum x y))
bounded_fraction (Product s t) = and_then (bounded_fraction s) (λ x. and_then (bounded_fraction t) (λ y. bounded_fraction_product x y))

-- ---- the conclusion
abbrev pub bounded_cross_of : Formed → Formed → Result Polynomial Limit
bounded_cross_of x y =
    and_then (bounded_product x.over y.under) (λ a. and_then (bounded_product y.over x.under) (λ b. bounded_difference a b))

abbrev pub bounded_onto : Polynomial → List Polynomial → Result Polynomial Limit
bounded_onto p [] = Ok p
bounded_onto p (q ∷ qs) = and_then (bounded_product p q) (λ r. bounded_onto r qs)

abbrev pub bounded_equality : Formed → Formed → Result Polynomial Limit
bounded_equality x y =
    and_then (bounded_cross_of x y) (λ c. and_then (bounded_onto (primitive_part c) (parts_once (x.squares ++ y.squares))) (λ p.
    Ok (primitive_part p)))

abbrev pub bounded_conclusion : Term (Vector Polynomial) → Term (Vector Polynomial) → Result Polynomial Limit
bounded_conclusion s t = and_then (bounded_fraction s) (λ x. and_then (bounded_fraction t) (λ y. bounded_equality x y))

-- That of the two terms that parts are over places. (Of parts that are no two terms it is 0.)
abbrev pub bounded_conclusion_of : List (Term (Vector Polynomial)) → Result Polynomial Limit
bounded_conclusion_of (s ∷ t ∷ []) = bounded_conclusion s t
bounded_conclusion_of ts = Ok []

abbrev pub concluded : List Part → List (Vector Polynomial) → Result Polynomial Limit
concluded parts places = bounded_conclusion_of (terms_of parts places)

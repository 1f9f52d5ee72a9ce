-- What the code of a term forms.
use Rattle.std.specs.Prelude.{List, [], Result}
use Rattle.poly_model.specs.Polynomial.{Polynomial}
use Rattle.poly_model.specs.declared.limits.Limit.{Limit}
use Rattle.ratio_terms.specs.declared.part.Part.{Part}
use Rattle.ratio_terms.specs.declared.part.Part.TheVariants as part
use Rattle.ratio_terms.specs.Terms.{terms_of, term_with, first_of}
use Rattle.ratio_eq.specs.Vectors.{Vector}
use Rattle.ratio_eq.specs.Bounded.{Formed, bounded_fraction, bounded_fraction_sum, bounded_fraction_product}
use Rattle.ratio_eq.specs.declared.fraction.Fraction.{Fraction}

-- A fraction of the code.
abbrev pub formed_of : Fraction → Formed
formed_of f = record { over = f.over; under = f.under; squares = f.squares.items }

-- The fraction of a part without operands, over the first of places.
abbrev pub bounded_leaf : Part → List (Vector Polynomial) → Result Formed Limit
bounded_leaf p spots = bounded_fraction (first_of (term_with (λ points. []) p spots))

-- The fraction of a part with two operands, of their fractions.
abbrev pub bounded_joined : Part → Formed → Formed → Result Formed Limit
bounded_joined part.Mult x y = bounded_fraction_product x y
bounded_joined p x y = bounded_fraction_sum x y

-- The fraction of the first term of parts.
abbrev pub bounded_first : List Part → List (Vector Polynomial) → Result Formed Limit
bounded_first parts spots = bounded_fraction (first_of (terms_of parts spots))

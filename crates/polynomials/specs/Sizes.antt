-- The sizes of coefficients, and parts of lists.
use Rattle.std.specs.Prelude.{ℕ, ◌+◌, List, [], ◌∷◌, take, drop, unsigned_abs}
use Rattle.poly_model.specs.Polynomial.{Polynomial}
use Rattle.poly_model.specs.Standard.{polynomial_of}
use Rattle.poly_model.specs.declared.term.Term.{Term}

-- The sum of the sizes of the coefficients.
abbrev pub sizes_of : Polynomial → ℕ
sizes_of [] = 0
sizes_of ((es, c) ∷ p) = unsigned_abs c + sizes_of p

-- So many terms of a list, from a place on.
abbrev pub part_of : List Term → ℕ → ℕ → Polynomial
part_of xs i n = polynomial_of (take n (drop i xs))

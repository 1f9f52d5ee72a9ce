-- How many polynomials have a class.
use Rattle.std.specs.Prelude.{ℕ, ◌+◌, List, [], ◌∷◌, if◌then◌else◌, ◌==◌}
use Rattle.poly_model.specs.Polynomial.{Polynomial}
use Rattle.poly_model.specs.Reduction.{class_of}

abbrev pub count_of : ℕ → List Polynomial → ℕ
count_of x [] = 0
count_of x (p ∷ ps) = (if class_of p == x then 1 else 0) + count_of x ps

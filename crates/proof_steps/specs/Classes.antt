-- Equations of different classes.
use Rattle.std.specs.Prelude.{◌≡◌, ℕ, ◌<◌, List, [], get_or, length}
use Rattle.poly_model.specs.Polynomial.{Polynomial}
use Rattle.poly_model.specs.Reduction.{class_of}

-- No two equations have one class.
abbrev pub HaveOwnClasses : List Polynomial → Type 0
HaveOwnClasses E = (i j : ℕ) → i < length E → j < length E → class_of (get_or E i []) ≡ class_of (get_or E j []) → i ≡ j

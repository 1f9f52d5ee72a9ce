-- Lines and circles over the operations of a ring.
use Rattle.std.specs.Prelude.{ℕ, List, [], ◌∷◌, ◌++◌, get_or}
use Rattle.poly_model.specs.Domain.{Operations}
use Rattle.algebraize.specs.Vectors.{Vector, minus, dot, cross, rot, sq_difference}

-- A line: its direction, and what is zero of each place on it.
pub record Line (M : Type 0) : Type 0 where
  pub direction : Vector M
  pub incidence : Vector M → M

-- A circle: its centre, and a place on it.
pub record Circle (M : Type 0) : Type 0 where
  pub centre : Vector M
  pub through : Vector M

-- The line through A with the direction v.
abbrev pub line_along : {M : Type 0} → Operations M → Vector M → Vector M → Line M
line_along o v a = record { direction = v; incidence = λ x. cross o v (minus o x a) }

-- The line through A and B.
abbrev pub line_through : {M : Type 0} → Operations M → Vector M → Vector M → Line M
line_through o a b = line_along o (minus o b a) a

-- The line through A that is perpendicular to the direction v.
abbrev pub line_across : {M : Type 0} → Operations M → Vector M → Vector M → Line M
line_across o v a = record { direction = rot o v; incidence = λ x. dot o v (minus o x a) }

-- The perpendicular bisector of A and B.
abbrev pub bisector : {M : Type 0} → Operations M → Vector M → Vector M → Line M
bisector o a b = record {
  direction = rot o (minus o b a);
  incidence = λ x. sq_difference o (minus o x a) (minus o x b);
}

-- What stands for a line that was not made: no place is on it.
abbrev pub no_line : {M : Type 0} → Operations M → Line M
no_line o = record { direction = (o.zero, o.zero); incidence = λ x. o.one }

-- What stands for a circle that was not made: only the origin.
abbrev pub no_circle : {M : Type 0} → Operations M → Circle M
no_circle o = record { centre = (o.zero, o.zero); through = (o.zero, o.zero) }

-- The lines and circles so far, each by its number.
pub record Curves (M : Type 0) : Type 0 where
  pub lines : List (Line M)
  pub circles : List (Circle M)

abbrev pub no_curves : {M : Type 0} → Curves M
no_curves = record { lines = []; circles = [] }

abbrev pub line_at : {M : Type 0} → Operations M → Curves M → ℕ → Line M
line_at o c l = get_or c.lines l (no_line o)

abbrev pub circle_at : {M : Type 0} → Operations M → Curves M → ℕ → Circle M
circle_at o c k = get_or c.circles k (no_circle o)

abbrev pub with_line : {M : Type 0} → Line M → Curves M → Curves M
with_line l c = record { lines = c.lines ++ l ∷ []; circles = c.circles }

abbrev pub with_circle : {M : Type 0} → Circle M → Curves M → Curves M
with_circle k c = record { lines = c.lines; circles = c.circles ++ k ∷ [] }

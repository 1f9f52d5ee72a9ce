-- Vectors over the operations of a ring.
use Rattle.poly_model.specs.Domain.{Operations}
use Rattle.std.specs.Prelude.{List, [], ◌∷◌}

-- A vector, or the place of a point.
abbrev pub Vector : Type 0 → Type 0
Vector M = M × M

-- The first and the second coordinate.
abbrev pub coordinates : {M : Type 0} → Vector M → List M
coordinates p = p.0 ∷ p.1 ∷ []

abbrev pub plus : {M : Type 0} → Operations M → Vector M → Vector M → Vector M
plus o p q = (o.add p.0 q.0, o.add p.1 q.1)

-- The vector from q to p.
abbrev pub minus : {M : Type 0} → Operations M → Vector M → Vector M → Vector M
minus o p q = (o.add p.0 (o.neg q.0), o.add p.1 (o.neg q.1))

abbrev pub twice : {M : Type 0} → Operations M → Vector M → Vector M
twice o p = plus o p p

-- A multiple of a vector.
abbrev pub times : {M : Type 0} → Operations M → M → Vector M → Vector M
times o k p = (o.mul k p.0, o.mul k p.1)

abbrev pub dot : {M : Type 0} → Operations M → Vector M → Vector M → M
dot o p q = o.add (o.mul p.0 q.0) (o.mul p.1 q.1)

abbrev pub cross : {M : Type 0} → Operations M → Vector M → Vector M → M
cross o p q = o.add (o.mul p.0 q.1) (o.neg (o.mul p.1 q.0))

-- A quarter turn.
abbrev pub rot : {M : Type 0} → Operations M → Vector M → Vector M
rot o p = (o.neg p.1, p.0)

-- The square of a length.
abbrev pub sq : {M : Type 0} → Operations M → Vector M → M
sq o p = dot o p p

-- By how much the square of p's length passes that of q's.
abbrev pub sq_difference : {M : Type 0} → Operations M → Vector M → Vector M → M
sq_difference o p q = o.add (sq o p) (o.neg (sq o q))

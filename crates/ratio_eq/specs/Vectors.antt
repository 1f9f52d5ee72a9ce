-- Vectors over the operations of a ring.
use Rattle.poly_model.specs.Domain.{Operations}

-- A vector, or the place of a point.
abbrev pub Vector : Type 0 → Type 0
Vector M = M × M

-- The vector from q to p.
abbrev pub minus : {M : Type 0} → Operations M → Vector M → Vector M → Vector M
minus o p q = (o.add p.0 (o.neg q.0), o.add p.1 (o.neg q.1))

abbrev pub dot : {M : Type 0} → Operations M → Vector M → Vector M → M
dot o p q = o.add (o.mul p.0 q.0) (o.mul p.1 q.1)

abbrev pub cross : {M : Type 0} → Operations M → Vector M → Vector M → M
cross o p q = o.add (o.mul p.0 q.1) (o.neg (o.mul p.1 q.0))

-- The square of a length.
abbrev pub sq : {M : Type 0} → Operations M → Vector M → M
sq o p = dot o p p

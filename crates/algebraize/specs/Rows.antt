-- What is zero where points stand as a construction or a statement says.
use Rattle.std.specs.Prelude.{ℤ, List, [], ◌∷◌}
use Rattle.poly_model.specs.Domain.{Operations, integer_in}
use Rattle.algebraize.specs.Vectors.{Vector, coordinates, plus, minus, twice, times, dot, cross, sq_difference}
use Rattle.algebraize.specs.Curves.{Line, Circle}

-- A and B are the same.
abbrev pub identical : {M : Type 0} → Operations M → Vector M → Vector M → List M
identical o a b = coordinates (minus o a b)

-- A, B and C are on one line.
abbrev pub collinear : {M : Type 0} → Operations M → (a b c : Vector M) → List M
collinear o a b c = cross o (minus o b a) (minus o c a) ∷ []

-- AB is perpendicular to CD.
abbrev pub perpendicular : {M : Type 0} → Operations M → (a b c d : Vector M) → List M
perpendicular o a b c d = dot o (minus o b a) (minus o d c) ∷ []

-- AB is parallel to CD.
abbrev pub parallel : {M : Type 0} → Operations M → (a b c d : Vector M) → List M
parallel o a b c d = cross o (minus o b a) (minus o d c) ∷ []

-- M is the midpoint of A and B.
abbrev pub midpoint : {M : Type 0} → Operations M → (m a b : Vector M) → List M
midpoint o m a b = coordinates (minus o (minus o (twice o m) a) b)

-- AB is as long as CD.
abbrev pub same_length : {M : Type 0} → Operations M → (a b c d : Vector M) → List M
same_length o a b c d = sq_difference o (minus o b a) (minus o d c) ∷ []

-- X is on both lines.
abbrev pub intersection : {M : Type 0} → Vector M → Line M → Line M → List M
intersection x a b = a.incidence x ∷ b.incidence x ∷ []

-- F is on the line, and AF is perpendicular to it.
abbrev pub foot : {M : Type 0} → Operations M → (f a : Vector M) → Line M → List M
foot o f a l = l.incidence f ∷ dot o l.direction (minus o f a) ∷ []

-- X is on the line AB.
abbrev pub on_line : {M : Type 0} → Operations M → (x a b : Vector M) → List M
on_line o x a b = cross o (minus o b a) (minus o x a) ∷ []

-- What is zero of each place on a circle.
abbrev pub on_circle : {M : Type 0} → Operations M → Vector M → Circle M → M
on_circle o x k = sq_difference o (minus o x k.centre) (minus o k.through k.centre)

-- X is C moved by the vector from A to B.
abbrev pub translation : {M : Type 0} → Operations M → (x a b c : Vector M) → List M
translation o x a b c = coordinates (plus o (minus o (minus o x c) b) a)

-- X divides AB in the ratio n/d: from A, d times the way to X is n times the way to B.
abbrev pub division : {M : Type 0} → Operations M → (n d : ℤ) (x a b : Vector M) → List M
division o n d x a b =
    coordinates (minus o (minus o (times o (integer_in o d) x) (times o (integer_in o d) a))
    (times o (integer_in o n) (minus o b a)))

-- The sum of the vectors from C to X and to Y.
abbrev pub centred : {M : Type 0} → Operations M → (x y c : Vector M) → Vector M
centred o x y c = minus o (plus o x y) (twice o c)

-- X and Y are the common points of a circle and a line: Y is the mirror image of X in the
-- perpendicular from the centre to the line.
abbrev pub line_cut : {M : Type 0} → Operations M → (x y : Vector M) → Circle M → Line M → List M
line_cut o x y k l =
    l.incidence x ∷ on_circle o x k ∷ l.incidence y ∷ dot o l.direction (centred o x y k.centre) ∷ []

-- X and Y are the common points of two circles: Y is the mirror image of X in the line of centres.
abbrev pub circle_cut : {M : Type 0} → Operations M → (x y : Vector M) → Circle M → Circle M → List M
circle_cut o x y k m =
    on_circle o x k ∷ on_circle o x m ∷ dot o (minus o m.centre k.centre) (minus o y x)
    ∷ cross o (minus o m.centre k.centre) (centred o x y k.centre) ∷ []

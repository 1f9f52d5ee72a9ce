-- The line over polynomials that the code's line stands for.
use Rattle.poly_model.specs.Polynomial.{Polynomial}
use Rattle.algebraize.specs.declared.lines.Shape.{Shape}
use Rattle.algebraize.specs.declared.lines.Shape.TheVariants as shape
use Rattle.algebraize.specs.declared.lines.Line as formed
use Rattle.algebraize.specs.Curves.{Line}
use Rattle.algebraize.specs.Vectors.{Vector, minus, dot, cross, sq_difference}
use Rattle.algebraize.specs.Equations.{polynomials}

-- What is zero of each place on a line of this direction and shape.
abbrev pub incidence_of : Vector Polynomial → Shape → Vector Polynomial → Polynomial
incidence_of v (shape.Along a) = λ x. cross polynomials v (minus polynomials x a)
incidence_of v (shape.Across n a) = λ x. dot polynomials n (minus polynomials x a)
incidence_of v (shape.Bisector a b) = λ x. sq_difference polynomials (minus polynomials x a) (minus polynomials x b)
incidence_of v shape.Nowhere = λ x. polynomials.one

abbrev pub line_of : formed.Line → Line Polynomial
line_of l = record { direction = l.direction; incidence = incidence_of l.direction l.shape }

-- One coordinate of a formula over vectors.
use Rattle.poly_model.specs.Domain.{integer_in}
use Rattle.poly_model.specs.Polynomial.{Polynomial, poly_difference, poly_product}
use Rattle.algebraize.specs.declared.ratio.Ratio.{Ratio}
use Rattle.algebraize.specs.Equations.{polynomials}

-- d*x - d*a - n*(b - a).
abbrev pub divided_part : Ratio → Polynomial → Polynomial → Polynomial → Polynomial
divided_part r x a b =
    poly_difference (poly_difference (poly_product (integer_in polynomials r.denominator) x) (poly_product (integer_in polynomials r.denominator) a))
    (poly_product (integer_in polynomials r.numerator) (poly_difference b a))

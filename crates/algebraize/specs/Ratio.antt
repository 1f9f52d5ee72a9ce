-- A number of millionths as a ratio in lowest terms.
use Rattle.std.specs.Prelude.{ℕ, ◌/◌, ℤ, unsigned_abs}
use Rattle.poly_model.specs.Content.{gcd, quotient_of}
use Rattle.algebraize.specs.declared.ratio.TheConstants.{MILLIONTHS}

-- By how much a number of millionths is shortened.
abbrev pub common_factor : ℤ → ℕ
common_factor t = gcd MILLIONTHS (unsigned_abs t)

abbrev pub numerator : ℤ → ℤ
numerator t = quotient_of t (common_factor t)

-- It is positive.
abbrev pub denominator : ℤ → ℕ
denominator t = MILLIONTHS / common_factor t

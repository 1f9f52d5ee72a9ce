-- The bytes that a polynomial's text is made of.
use Rattle.std.specs.Prelude.{ℕ, Bool, ◌||◌, ◌==◌}
use Rattle.desk_io.specs.Characters.{caret, is_digit, minus, plus, small_u, small_x, space, star}

-- A byte that stands in the text of some polynomial.
abbrev pub is_poly_byte : ℕ → Bool
is_poly_byte b = is_digit b || (b == small_u || (b == small_x || (b == space || (b == star || (b == plus || (b == minus || b == caret))))))

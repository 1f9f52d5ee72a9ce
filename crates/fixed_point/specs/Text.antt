-- The decimal text of a whole number of units, where a unit is a power of ten below one.
use Rattle.std.specs.Prelude.{ℕ, zero, suc, ◌+◌, ◌/◌, ◌%◌, ◌^◌, List, [], ◌∷◌, ◌++◌, if◌then◌else◌, ◌==◌, ℤ, pos, negsuc, decimal}
use Rattle.desk_io.specs.Characters.{digit_zero, full_stop, minus}

-- The decimals of m units of 10 ^ -places, without trailing zeros: a digit as long as something is left.
unfoldable pub decimals_text : ℕ → ℕ → List ℕ
decimals_text zero m = []
decimals_text (suc places) m = if m == 0 then [] else (digit_zero + m / 10 ^ places) ∷ decimals_text places (m % 10 ^ places)

-- The decimals behind a point, where there are any.
abbrev pub point_text : List ℕ → List ℕ
point_text [] = []
point_text (digit ∷ digits) = full_stop ∷ digit ∷ digits

-- The text of n units: the whole part, and behind a point what is left of it.
unfoldable pub size_text : ℕ → ℕ → List ℕ
size_text places n = decimal (n / 10 ^ places) ++ point_text (decimals_text places (n % 10 ^ places))

-- The text of z units, with a minus in front where z is negative.
unfoldable pub number_text : ℕ → ℤ → List ℕ
number_text places (pos n) = size_text places n
number_text places (negsuc n) = minus ∷ size_text places (suc n)

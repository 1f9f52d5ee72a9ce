-- The whole number nearest to a quotient.
use Rattle.std.specs.Prelude.{◌≡◌, ℤ, pos, ◌+ℤ◌, ◌-ℤ◌, ◌*ℤ◌, neg_ℤ, ◌<ℤ◌, ◌≤ℤ◌}
use Rattle.std.specs.Int.{int_div_euclid}

-- The whole number nearest to n / d for a positive d, ties upwards: n / d and a half, rounded down.
abbrev pub nearest : ℤ → ℤ → ℤ
nearest n d = int_div_euclid (pos 2 *ℤ n +ℤ d) (pos 2 *ℤ d)

-- q differs from n / d by at most a half, and lies above it where it differs by a half.
abbrev pub IsNearest : ℤ → ℤ → ℤ → Type 0
IsNearest n d q = (neg_ℤ d ≤ℤ (pos 2 *ℤ (n -ℤ q *ℤ d))) × ((pos 2 *ℤ (n -ℤ q *ℤ d)) <ℤ d)

-- For every positive divisor `nearest` is near, and no other number is.
abbrev pub NearestIsTheOne : Type 0
NearestIsTheOne = (n d : ℤ) → pos 0 <ℤ d → IsNearest n d (nearest n d) × ((q : ℤ) → IsNearest n d q → q ≡ nearest n d)

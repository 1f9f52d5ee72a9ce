-- The parts of a dashed segment: every other part is a dash.
use Rattle.std.specs.Prelude.{ℕ, ◌+◌, ◌/◌, min, pos, unsigned_abs}
use Rattle.edge_num.specs.Roots.{root}
use Rattle.fixed_point.specs.declared.spot.Spot.{Spot}
use Rattle.circle_cut.specs.Vectors.{position, plus, scaled, sq, way}
use Rattle.circle_cut.specs.Places.{over, rounded}
use Rattle.latex_out.specs.declared.dash.TheConstants.{MOST_GAPS, PERIOD}

-- The length of a segment, rounded down.
unfoldable pub length_of : Spot → Spot → ℕ
length_of a b = root (unsigned_abs (sq (way a b)))

-- How many gaps a segment of a length has: one for each whole period, but not more than the most.
abbrev pub gaps_in : ℕ → ℕ
gaps_in l = min (l / PERIOD) MOST_GAPS

-- How many dashes it has: one at each end, and one between any two gaps.
abbrev pub dashes_in : ℕ → ℕ
dashes_in l = gaps_in l + 1

-- The parts are the dashes and the gaps.
abbrev pub parts_in : ℕ → ℕ
parts_in l = dashes_in l + gaps_in l

-- The spot after j of m equal parts of the way from a to b: a + j (b - a) / m.
unfoldable pub division : ℕ → ℕ → Spot → Spot → Spot
division j m a b = rounded (over (pos m) (plus (scaled (pos m) (position a)) (scaled (pos j) (way a b))))

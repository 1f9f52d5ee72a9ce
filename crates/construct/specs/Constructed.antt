-- What is constructed so far.
use Rattle.std.specs.Prelude.{ℕ, ◌+◌, List, [], ◌∷◌, ◌++◌, get_or, pos}
use Rattle.fixed_point.specs.declared.spot.Spot.{Spot}
use Rattle.fixed_point.specs.declared.curve.LineEq.{LineEq}
use Rattle.fixed_point.specs.declared.curve.Round.{Round}

-- The points, lines and circles by their numbers, and how many of the points are semi-free.
pub record Constructed : Type 0 where
  pub points : List Spot
  pub lines : List LineEq
  pub circles : List Round
  pub semi_free : ℕ

-- Nothing is constructed yet.
abbrev pub nothing : Constructed
nothing = record { points = []; lines = []; circles = []; semi_free = 0 }

-- The spot of a point, by its number.
abbrev pub spot_in : Constructed → ℕ → Spot
spot_in f p = get_or f.points p (record { x = pos 0; y = pos 0 })

-- The line of a number.
abbrev pub line_in : Constructed → ℕ → LineEq
line_in f l = get_or f.lines l (record { n1 = pos 0; n2 = pos 0; c = pos 0; v1 = pos 0; v2 = pos 0 })

-- The circle of a number.
abbrev pub circle_in : Constructed → ℕ → Round
circle_in f k = get_or f.circles k (record { centre = record { x = pos 0; y = pos 0 }; square = pos 0 })

-- One more point.
abbrev pub with_point : Spot → Constructed → Constructed
with_point s f = record f { points = f.points ++ s ∷ [] }

-- One more line.
abbrev pub with_line : LineEq → Constructed → Constructed
with_line l f = record f { lines = f.lines ++ l ∷ [] }

-- One more circle.
abbrev pub with_circle : Round → Constructed → Constructed
with_circle k f = record f { circles = f.circles ++ k ∷ [] }

-- One more of the points is semi-free.
abbrev pub counted : Constructed → Constructed
counted f = record f { semi_free = f.semi_free + 1 }

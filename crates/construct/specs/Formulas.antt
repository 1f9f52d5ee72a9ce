-- The exact place of each construction's point, and the numbers of its line or circle.
use Rattle.std.specs.Prelude.{ℤ, pos, ◌+ℤ◌, ◌-ℤ◌, ◌*ℤ◌, Option, Some, None, if◌then◌else◌}
use Rattle.std.specs.Ordering.{int_eq}
use Rattle.fixed_point.specs.declared.spot.Spot.{Spot}
use Rattle.fixed_point.specs.declared.curve.LineEq.{LineEq}
use Rattle.fixed_point.specs.declared.curve.Round.{Round}
use Rattle.circle_cut.specs.declared.vector.Vector.{Vector}
use Rattle.circle_cut.specs.declared.exact.Exact.{Exact}
use Rattle.circle_cut.specs.Vectors.{position, way, plus, scaled, rot, dot, cross, sq}
use Rattle.circle_cut.specs.Places.{over, over_signed}
use Rattle.circle_cut.specs.Lines.{normal, offset, line_with, midway, farther}
use Rattle.construct.specs.declared.limits.TheConstants.{MILLION, ROUND_PARTS}

-- A point with two numbers of ticks.
unfoldable pub at_ticks : ℤ → ℤ → Exact
at_ticks x y = over (pos 1) (record { x = x; y = y })

-- (A + B) / 2
unfoldable pub middle : Spot → Spot → Exact
middle a b = over (pos 2) (plus (position a) (position b))

-- C + (B - A)
unfoldable pub moved : Spot → Spot → Spot → Exact
moved a b c = over (pos 1) (plus (position c) (way a b))

-- A + n (B - A) / d
unfoldable pub part_way : ℤ → ℤ → Spot → Spot → Exact
part_way n d a b = over d (plus (scaled d (position a)) (scaled n (way a b)))

-- A + (c - dot(n, A)) n / sq(n)
unfoldable pub foot : Spot → LineEq → Exact
foot a l = over (sq (normal l)) (plus (scaled (sq (normal l)) (position a)) (scaled (offset a l) (normal l)))

-- (c m2 - n2 e, n1 e - c m1), for the lines (n, c) and (m, e)
unfoldable pub meet_top : LineEq → LineEq → Vector
meet_top l m = record {
  x = l.c *ℤ (normal m).y -ℤ (normal l).y *ℤ m.c;
  y = (normal l).x *ℤ m.c -ℤ l.c *ℤ (normal m).x;
}

-- The common point of two lines, where the determinant of their normals is not 0.
unfoldable pub meet : LineEq → LineEq → Option Exact
meet l m =
    if int_eq (cross (normal l) (normal m)) (pos 0) then None
    else Some (over_signed (cross (normal l) (normal m)) (meet_top l m))

-- (1000000 - T T) w + 2000 T rot(w), where 2000 is twice the root of a million
unfoldable pub turned : ℤ → Vector → Vector
turned t w = plus (scaled (pos MILLION -ℤ t *ℤ t) w) (scaled (pos ROUND_PARTS *ℤ t) (rot w))

-- O + ((1000000 - T T) w + 2000 T rot(w)) / (1000000 + T T), where w = A - O
unfoldable pub on_circle : ℤ → Spot → Spot → Exact
on_circle t o a = over (pos MILLION +ℤ t *ℤ t) (plus (scaled (pos MILLION +ℤ t *ℤ t) (position o)) (turned t (way o a)))

-- The line through A in the direction v.
unfoldable pub through : Spot → Vector → LineEq
through a v = line_with (rot v) (dot (rot v) (position a)) v

-- The line through A that is perpendicular to the direction v.
unfoldable pub across : Spot → Vector → LineEq
across a v = line_with v (dot v (position a)) (rot v)

-- The line of the points that are as far from A as from B.
unfoldable pub bisector : Spot → Spot → LineEq
bisector a b = midway a b (farther a b)

-- The circle with the centre O through A.
unfoldable pub circle : Spot → Spot → Round
circle o a = record { centre = o; square = sq (way o a) }

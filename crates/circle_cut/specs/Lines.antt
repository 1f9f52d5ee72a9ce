-- Lines dot(n, X) = c with a direction.
use Rattle.std.specs.Prelude.{ℤ, pos, ◌+ℤ◌, ◌-ℤ◌, Bool, ◌&&◌}
use Rattle.std.specs.Ordering.{int_eq}
use Rattle.fixed_point.specs.declared.spot.Spot.{Spot}
use Rattle.fixed_point.specs.declared.curve.LineEq.{LineEq}
use Rattle.fixed_point.specs.declared.curve.Round.{Round}
use Rattle.circle_cut.specs.declared.vector.Vector.{Vector}
use Rattle.circle_cut.specs.Vectors.{position, way, scaled, rot, dot, sq}

-- The normal n.
unfoldable pub normal : LineEq → Vector
normal l = record { x = l.n1; y = l.n2 }

-- The direction.
unfoldable pub direction : LineEq → Vector
direction l = record { x = l.v1; y = l.v2 }

-- c - dot(n, A), which is 0 on the line.
unfoldable pub offset : Spot → LineEq → ℤ
offset a l = l.c -ℤ dot (normal l) (position a)

-- The line dot(n, X) = c with the direction v.
unfoldable pub line_with : Vector → ℤ → Vector → LineEq
line_with n c v = record { n1 = n.x; n2 = n.y; c = c; v1 = v.x; v2 = v.y }

-- The line 2 dot(B - A, X) = c, which is perpendicular to the way from A to B.
unfoldable pub midway : Spot → Spot → ℤ → LineEq
midway a b c = line_with (scaled (pos 2) (way a b)) c (rot (way a b))

-- sq(B) - sq(A)
unfoldable pub farther : Spot → Spot → ℤ
farther a b = sq (position b) -ℤ sq (position a)

-- The line of the points whose squares of distance to the centres differ as the square radii do.
unfoldable pub radical : Round → Round → LineEq
radical k m = midway k.centre m.centre (k.square -ℤ m.square +ℤ farther k.centre m.centre)

-- Two spots are one.
unfoldable pub same_spot : Spot → Spot → Bool
same_spot a b = int_eq a.x b.x && int_eq a.y b.y

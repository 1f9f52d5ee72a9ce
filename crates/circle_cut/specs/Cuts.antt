-- The common points of a circle with a line and with a circle.
use Rattle.std.specs.Prelude.{ℤ, pos, neg_ℤ, ◌-ℤ◌, ◌*ℤ◌, Option, Some, None, int_lt, if◌then◌else◌, unsigned_abs}
use Rattle.edge_num.specs.Roots.{root}
use Rattle.fixed_point.specs.declared.spot.Spot.{Spot}
use Rattle.fixed_point.specs.declared.curve.LineEq.{LineEq}
use Rattle.fixed_point.specs.declared.curve.Round.{Round}
use Rattle.circle_cut.specs.declared.exact.Exact.{Exact}
use Rattle.circle_cut.specs.declared.vector.Vector.{Vector}
use Rattle.circle_cut.specs.Vectors.{position, plus, scaled, rot, sq}
use Rattle.circle_cut.specs.Places.{over, rounded}
use Rattle.circle_cut.specs.Lines.{normal, offset, radical, same_spot}

-- sq(n) q - D D, where D is the offset of the centre
unfoldable pub discriminant : Round → LineEq → ℤ
discriminant k l = sq (normal l) *ℤ k.square -ℤ offset k.centre l *ℤ offset k.centre l

-- The root of the discriminant.
unfoldable pub half_chord : Round → LineEq → ℤ
half_chord k l = pos (root (unsigned_abs (discriminant k l)))

-- D n + s rot(n)
unfoldable pub from_centre : ℤ → Round → LineEq → Vector
from_centre s k l = plus (scaled (offset k.centre l) (normal l)) (scaled s (rot (normal l)))

-- O + (D n + s rot(n)) / sq(n), over one denominator
unfoldable pub cut_at : ℤ → Round → LineEq → Exact
cut_at s k l = over (sq (normal l)) (plus (scaled (sq (normal l)) (position k.centre)) (from_centre s k l))

-- The common points of a circle and a line, where the discriminant is not negative.
unfoldable pub line_cuts : Round → LineEq → Option (Spot × Spot)
line_cuts k l =
    if int_lt (discriminant k l) (pos 0) then None
    else Some (rounded (cut_at (half_chord k l) k l), rounded (cut_at (neg_ℤ (half_chord k l)) k l))

-- The common points of two circles, where their centres are not one and the discriminant is not negative.
unfoldable pub circle_cuts : Round → Round → Option (Spot × Spot)
circle_cuts k m = if same_spot k.centre m.centre then None else line_cuts k (radical k m)

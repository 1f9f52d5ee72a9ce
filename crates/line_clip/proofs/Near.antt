-- The ends of a part are rounded to spots in the area.
use Rattle.std.proofs.Common.{◌≤◌, Option, Some, None, arith}
use Rattle.std.specs.Prelude.{ℤ, pos, ◌<ℤ◌, ◌≤ℤ◌, ◌*ℤ◌, unsigned_abs, IfSome}
use Rattle.std.proofs.lemmas.Int.{ints}
use Rattle.edge_num.specs.Numbers.{nearest}
use Rattle.circle_cut.specs.declared.exact.Exact.{Exact}
use Rattle.circle_cut.specs.Places.{rounded}
use Rattle.circle_cut.specs.Sizes.{IsNear}
use Rattle.edge_num.proofs.Rounding.{nearest-most, nearest-least}
use Rattle.line_clip.specs.declared.part.Area.{Area}
use Rattle.line_clip.specs.declared.part.Line.{Line}
use Rattle.line_clip.specs.Part.{IsCommon, IsPart}
use Rattle.line_clip.specs.Ends.{line_part}
use Rattle.line_clip.specs.Sizes.{IsArea, IsLine, AreNear}
use Rattle.fixed_point.specs.declared.limits.TheConstants.{MOST_TICKS}
use Rattle.line_clip.proofs.Turning.{the-part}

within : (x d w : ℤ) → pos 0 <ℤ d → pos 0 ≤ℤ x → x ≤ℤ (w *ℤ d) → unsigned_abs w ≤ MOST_TICKS → unsigned_abs (nearest x d) ≤ MOST_TICKS
within x d w h low high small =
    let l = nearest-least x d (pos 0) h (omega (arith, ints, low)) in
    let m = nearest-most x d w h high in
    omega (arith, ints, l, m, small)

common-near : (a : Area) (l : Line) (p : Exact) → IsArea a → IsCommon a l p → IsNear (rounded p)
unfolding rounded
common-near a l p area k =
    (within p.x p.d a.w k.positive k.inside.left k.inside.right area.small_w, within p.y p.d a.h k.positive k.inside.bottom k.inside.top area.small_h)

part-near : (a : Area) (l : Line) (o : Option (Exact × Exact)) → IsArea a → IsPart a l o → IfSome o (λ e. AreNear e)
part-near a l None area p = tt
part-near a l (Some ends) area p = (common-near a l ends.0 area p.first, common-near a l ends.1 area p.last)

pub ends_near : (a : Area) (l : Line) → IsArea a → IsLine l → IfSome (line_part a l) (λ e. AreNear e)
ends_near a l area line = part-near a l (line_part a l) area (the-part a l area.wide area.high line.some)

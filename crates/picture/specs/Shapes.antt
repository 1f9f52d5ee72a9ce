-- Which pictures can be written.
use Rattle.std.specs.Prelude.{ℕ, ◌<◌, ℤ, pos, ◌≤ℤ◌, All}
use Rattle.fixed_point.specs.declared.limits.TheConstants.{MOST_TICKS}
use Rattle.circle_cut.specs.declared.limits.TheConstants.{MOST_NORMAL}
use Rattle.circle_cut.specs.Sizes.{IsNear}
use Rattle.picture.specs.declared.shape.Ink.{Ink}
use Rattle.picture.specs.declared.shape.Picture.{Picture}
use Rattle.picture.specs.declared.shape.Shape.{Shape}
use Rattle.picture.specs.declared.shape.Shape.TheVariants as shape

-- A width or a height: some ticks, and at most ten metres.
abbrev pub IsExtent : ℤ → Type 0
IsExtent n = (pos 1 ≤ℤ n) × (n ≤ℤ pos MOST_TICKS)

-- The spots of the shape are near, and a radius has a size that a construction gives it.
abbrev pub IsNearby : Shape → Type 0
IsNearby (shape.Segment a b) = IsNear a × IsNear b
IsNearby (shape.Dashed a b) = IsNear a × IsNear b
IsNearby (shape.Whole a r) = IsNear a × (pos 0 ≤ℤ r) × (r ≤ℤ pos MOST_NORMAL)
IsNearby (shape.Dot a) = IsNear a
IsNearby (shape.Ring a) = IsNear a
IsNearby (shape.Label a s n) = IsNear a

-- A name is that of one of the first n points.
abbrev pub IsNamed : ℕ → Shape → Type 0
IsNamed n (shape.Segment a b) = Unit {0}
IsNamed n (shape.Dashed a b) = Unit {0}
IsNamed n (shape.Whole a r) = Unit {0}
IsNamed n (shape.Dot a) = Unit {0}
IsNamed n (shape.Ring a) = Unit {0}
IsNamed n (shape.Label a s p) = p < n

-- A shape with its colour, over n points.
abbrev pub IsWritten : ℕ → Ink × Shape → Type 0
IsWritten n item = IsNearby item.1 × IsNamed n item.1

-- The picture can be written as a drawing, with the names of n points.
pub record IsDrawable (n : ℕ) (picture : Picture) : Type 0 where
  pub width : IsExtent picture.w
  pub height : IsExtent picture.h
  pub shapes : All (IsWritten n) picture.shapes

-- That a picture can be written has one proof at most, so that a struct can hold it.
use Rattle.std.specs.Prelude.{ℕ}
use Rattle.std.proofs.Props.{props}
use Rattle.picture.specs.declared.shape.Picture.{Picture}
use Rattle.picture.specs.declared.shape.Shape.{Shape}
use Rattle.picture.specs.declared.shape.Shape.TheVariants as shape
use Rattle.picture.specs.Shapes.{IsNearby, IsNamed, IsDrawable}

nearby-prop : (s : Shape) → IsProp (IsNearby s)
nearby-prop (shape.Segment a b) = hlevel props
nearby-prop (shape.Dashed a b) = hlevel props
nearby-prop (shape.Whole a r) = hlevel props
nearby-prop (shape.Dot a) = hlevel props
nearby-prop (shape.Ring a) = hlevel props
nearby-prop (shape.Label a s n) = hlevel props

named-prop : (n : ℕ) (s : Shape) → IsProp (IsNamed n s)
named-prop n (shape.Segment a b) = hlevel props
named-prop n (shape.Dashed a b) = hlevel props
named-prop n (shape.Whole a r) = hlevel props
named-prop n (shape.Dot a) = hlevel props
named-prop n (shape.Ring a) = hlevel props
named-prop n (shape.Label a s p) = hlevel props

pub drawn-prop : (n : ℕ) (p : Picture) → IsProp (IsDrawable n p)
drawn-prop n p = hlevel (props, nearby-prop, named-prop)

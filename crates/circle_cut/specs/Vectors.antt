-- Vectors of whole numbers.
use Rattle.std.specs.Prelude.{ℤ, ◌+ℤ◌, ◌-ℤ◌, ◌*ℤ◌, neg_ℤ}
use Rattle.fixed_point.specs.declared.spot.Spot.{Spot}
use Rattle.circle_cut.specs.declared.vector.Vector.{Vector}

-- From the origin to a spot.
unfoldable pub position : Spot → Vector
position a = record { x = a.x; y = a.y }

-- v + w
unfoldable pub plus : Vector → Vector → Vector
plus v w = record { x = v.x +ℤ w.x; y = v.y +ℤ w.y }

-- v - w
unfoldable pub minus : Vector → Vector → Vector
minus v w = record { x = v.x -ℤ w.x; y = v.y -ℤ w.y }

-- -v
unfoldable pub negated : Vector → Vector
negated v = record { x = neg_ℤ v.x; y = neg_ℤ v.y }

-- k v
unfoldable pub scaled : ℤ → Vector → Vector
scaled k v = record { x = k *ℤ v.x; y = k *ℤ v.y }

-- v after a quarter turn to the left
unfoldable pub rot : Vector → Vector
rot v = record { x = neg_ℤ v.y; y = v.x }

-- The scalar product.
unfoldable pub dot : Vector → Vector → ℤ
dot v w = v.x *ℤ w.x +ℤ v.y *ℤ w.y

-- The determinant.
unfoldable pub cross : Vector → Vector → ℤ
cross v w = v.x *ℤ w.y -ℤ v.y *ℤ w.x

-- The square of the length.
unfoldable pub sq : Vector → ℤ
sq v = dot v v

-- From a to b.
unfoldable pub way : Spot → Spot → Vector
way a b = minus (position b) (position a)

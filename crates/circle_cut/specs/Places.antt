-- Exact places and the spots nearest to them.
use Rattle.std.specs.Prelude.{ℤ, pos, neg_ℤ, int_lt, if◌then◌else◌}
use Rattle.edge_num.specs.Numbers.{nearest}
use Rattle.fixed_point.specs.declared.spot.Spot.{Spot}
use Rattle.circle_cut.specs.declared.vector.Vector.{Vector}
use Rattle.circle_cut.specs.declared.exact.Exact.{Exact}
use Rattle.circle_cut.specs.Vectors.{negated}

-- v / d, for a positive d
unfoldable pub over : ℤ → Vector → Exact
over d v = record { x = v.x; y = v.y; d = d }

-- v / d, for a d that is not 0: where it is negative, both change their sign
unfoldable pub over_signed : ℤ → Vector → Exact
over_signed d v = if int_lt d (pos 0) then over (neg_ℤ d) (negated v) else over d v

-- Each coordinate is the whole number nearest to its exact quotient.
unfoldable pub rounded : Exact → Spot
rounded e = record { x = nearest e.x e.d; y = nearest e.y e.d }

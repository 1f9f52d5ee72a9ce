-- The divisions of a segment are not far.
use Rattle.std.proofs.Common.{◌*◌, ◌<◌, ◌≤◌, ℕ, arith}
use Rattle.std.specs.Prelude.{ℤ, pos, ◌+ℤ◌, ◌-ℤ◌, ◌*ℤ◌, ◌<ℤ◌, unsigned_abs}
use Rattle.std.proofs.lemmas.Int.{ints, unsigned_abs-mul}
use Rattle.edge_num.proofs.Rounding.{nearest_within}
use Rattle.edge_num.proofs.Sizes.{product-below}
use Rattle.fixed_point.specs.declared.limits.TheConstants.{MOST_TICKS}
use Rattle.fixed_point.specs.declared.spot.Spot.{Spot}
use Rattle.circle_cut.specs.declared.limits.TheConstants.{MOST_SPAN, MOST_CUT}
use Rattle.circle_cut.specs.Vectors.{position, minus, plus, scaled, way}
use Rattle.circle_cut.specs.Places.{over, rounded}
use Rattle.circle_cut.specs.Sizes.{IsNear, IsSpotWithin}
use Rattle.latex_out.specs.Dashes.{division}

way-within : (a b : ℤ) → unsigned_abs a ≤ MOST_TICKS → unsigned_abs b ≤ MOST_TICKS → unsigned_abs (b -ℤ a) ≤ MOST_SPAN
way-within a b p q = omega (arith, ints, p, q)

sum-within : (x y : ℤ) (m : ℕ) → unsigned_abs x ≤ m * MOST_TICKS → unsigned_abs y ≤ m * MOST_SPAN → unsigned_abs (x +ℤ y) ≤ MOST_CUT * m
sum-within x y m p q = omega (arith, ints, p, q)

part-within : (j m : ℕ) (a b : ℤ) → j ≤ m → unsigned_abs a ≤ MOST_TICKS → unsigned_abs b ≤ MOST_TICKS → unsigned_abs (pos m *ℤ a +ℤ pos j *ℤ (b -ℤ a)) ≤ MOST_CUT * m
part-within j m a b le p q =
    let s = product-below j (unsigned_abs (b -ℤ a)) m MOST_SPAN le (way-within a b p q) in
    let t = product-below m (unsigned_abs a) m MOST_TICKS (omega arith) (omega (arith, p)) in
    sum-within (pos m *ℤ a) (pos j *ℤ (b -ℤ a)) m (omega (arith, unsigned_abs-mul (pos m) a, t)) (omega (arith, unsigned_abs-mul (pos j) (b -ℤ a), s))

pub division-near : (j m : ℕ) (a b : Spot) → IsNear a → IsNear b → 0 < m → j ≤ m → IsSpotWithin MOST_CUT (division j m a b)
unfolding division rounded over plus scaled minus way position
division-near j m a b p q some le =
    let positive : pos 0 <ℤ pos m = omega (arith, ints, some) in (
      nearest_within (pos m *ℤ a.x +ℤ pos j *ℤ (b.x -ℤ a.x)) (pos m) MOST_CUT positive (part-within j m a.x b.x le p.0 q.0),
      nearest_within (pos m *ℤ a.y +ℤ pos j *ℤ (b.y -ℤ a.y)) (pos m) MOST_CUT positive (part-within j m a.y b.y le p.1 q.1),
    )

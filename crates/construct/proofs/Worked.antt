-- Shares of semi-free points, computed: 1 is added to what is left of a multiple of the stride, so the greatest is the cycle.
use Rattle.std.specs.Prelude.{◌≡◌, pos, refl}
use Rattle.construct.specs.Made.{share}

first-shares : (share 1 ≡ pos 619) × (share 2 ≡ pos 240) × (share 3 ≡ pos 858)
first-shares = (refl, refl, refl)

greatest-share : share 292 ≡ pos 997
greatest-share = refl

-- Whole square roots.
use Rattle.std.specs.Prelude.{◌≡◌, ℕ, zero, suc, ◌+◌, ◌*◌, ◌≤◌, ◌<◌, nat_le, if◌then◌else◌}

-- One more, where its square is still within n.
abbrev pub root_step : ℕ → ℕ → ℕ
root_step r n = if nat_le ((r + 1) * (r + 1)) n then r + 1 else r

-- The greatest number whose square is at most n.
unfoldable pub root : ℕ → ℕ
root zero = 0
root (suc n) = root_step (root n) (suc n)

-- r is the greatest number whose square is at most n.
abbrev pub IsRoot : ℕ → ℕ → Type 0
IsRoot n r = (r * r ≤ n) × (n < (r + 1) * (r + 1))

-- For every number `root` is its root, and no other number is.
abbrev pub RootIsTheOne : Type 0
RootIsTheOne = (n : ℕ) → IsRoot n (root n) × ((r : ℕ) → IsRoot n r → r ≡ root n)

-- What is left of an amount.
use Rattle.std.specs.Prelude.{ℕ, ◌-◌, nat_le, if◌then◌else◌, Option, Some, None}

-- Nothing where more is wanted.
abbrev pub spent : ℕ → ℕ → Option ℕ
spent amount wanted = if nat_le wanted amount then Some (amount - wanted) else None

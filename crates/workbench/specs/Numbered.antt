-- The equation of a number.
use Rattle.std.specs.Prelude.{◌≡◌, ℕ, ◌-◌, List, length, get_or, Bool, true, ◌&&◌, nat_lt, nat_le}
use Rattle.workbench.specs.declared.bench.Held.{Held}

-- There is an equation of the number.
abbrev pub is_number_of : List Held → ℕ → Bool
is_number_of hs i = nat_lt 0 i && nat_le i (length hs)

pub record IsNumbered (hs : List Held) (i : ℕ) (h : Held) : Type 0 where
  pub there : is_number_of hs i ≡ true
  pub at : h ≡ get_or hs (i - 1) h

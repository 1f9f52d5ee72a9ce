-- Positions in ticks.
use Rattle.std.specs.Prelude.{ℤ, pos}
use Rattle.fixed_point.specs.declared.limits.TheConstants.{TICK_MILLIONTHS}
use Rattle.edge_num.specs.Numbers.{nearest}

-- The ticks of a number of millimetres, which is given in millionths.
abbrev pub ticks_of : ℤ → ℤ
ticks_of millionths = nearest millionths (pos TICK_MILLIONTHS)

-- Spots as positions.
use Rattle.construct.specs.Placing.{Positions}
use Rattle.construct.specs.declared.spots.Spots.{Spots}

-- The positions that are held.
abbrev pub positions_of : Spots → Positions
positions_of s = record { points = s.points; lines = s.lines; circles = s.circles }

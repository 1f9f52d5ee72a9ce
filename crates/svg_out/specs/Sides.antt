-- Where a name stands beside its spot, and which of its ends stands there.
use Rattle.std.specs.Prelude.{ℕ, List, codes, pos, neg_ℤ, ◌+ℤ◌}
use Rattle.fixed_point.specs.declared.spot.Spot.{Spot}
use Rattle.gcl_reader.specs.declared.word.Side.{Side}
use Rattle.gcl_reader.specs.declared.word.Side.TheVariants as side

-- The place of a name is so far from its spot, in ticks; the texts' base lines are there.
abbrev pub offset_of : Side → Spot
offset_of side.Centre = record { x = pos 0; y = neg_ℤ (pos 14000) }
offset_of side.L = record { x = neg_ℤ (pos 10000); y = neg_ℤ (pos 14000) }
offset_of side.R = record { x = pos 10000; y = neg_ℤ (pos 14000) }
offset_of side.T = record { x = pos 0; y = pos 10000 }
offset_of side.B = record { x = pos 0; y = neg_ℤ (pos 40000) }
offset_of side.Lt = record { x = neg_ℤ (pos 10000); y = pos 10000 }
offset_of side.Lb = record { x = neg_ℤ (pos 10000); y = neg_ℤ (pos 40000) }
offset_of side.Rt = record { x = pos 10000; y = pos 10000 }
offset_of side.Rb = record { x = pos 10000; y = neg_ℤ (pos 40000) }

-- The end of the name that stands at its place.
abbrev pub anchor_of : Side → List ℕ
anchor_of side.Centre = codes "middle"
anchor_of side.L = codes "end"
anchor_of side.R = codes "start"
anchor_of side.T = codes "middle"
anchor_of side.B = codes "middle"
anchor_of side.Lt = codes "end"
anchor_of side.Lb = codes "end"
anchor_of side.Rt = codes "start"
anchor_of side.Rb = codes "start"

-- A spot that is so far from another.
abbrev pub moved : Spot → Spot → Spot
moved a by = record { x = a.x +ℤ by.x; y = a.y +ℤ by.y }

-- Where a name stands beside its spot, and which of its corners stands there.
use Rattle.std.specs.Prelude.{ℕ, List, codes, [], pos, neg_ℤ, ◌+ℤ◌}
use Rattle.fixed_point.specs.declared.spot.Spot.{Spot}
use Rattle.gcl_reader.specs.declared.word.Side.{Side}
use Rattle.gcl_reader.specs.declared.word.Side.TheVariants as side

-- The place of a name is so far from its spot, in ticks.
abbrev pub offset_of : Side → Spot
offset_of side.Centre = record { x = pos 0; y = pos 0 }
offset_of side.L = record { x = neg_ℤ (pos 10000); y = pos 0 }
offset_of side.R = record { x = pos 10000; y = pos 0 }
offset_of side.T = record { x = pos 0; y = pos 10000 }
offset_of side.B = record { x = pos 0; y = neg_ℤ (pos 10000) }
offset_of side.Lt = record { x = neg_ℤ (pos 10000); y = pos 10000 }
offset_of side.Lb = record { x = neg_ℤ (pos 10000); y = neg_ℤ (pos 10000) }
offset_of side.Rt = record { x = pos 10000; y = pos 10000 }
offset_of side.Rb = record { x = pos 10000; y = neg_ℤ (pos 10000) }

-- The side or corner of the name that stands at its place, as an option of `\makebox`; in the middle there is none.
abbrev pub corner_of : Side → List ℕ
corner_of side.Centre = []
corner_of side.L = codes "[r]"
corner_of side.R = codes "[l]"
corner_of side.T = codes "[b]"
corner_of side.B = codes "[t]"
corner_of side.Lt = codes "[rb]"
corner_of side.Lb = codes "[rt]"
corner_of side.Rt = codes "[lb]"
corner_of side.Rb = codes "[lt]"

-- A spot that is so far from another.
abbrev pub moved : Spot → Spot → Spot
moved a by = record { x = a.x +ℤ by.x; y = a.y +ℤ by.y }

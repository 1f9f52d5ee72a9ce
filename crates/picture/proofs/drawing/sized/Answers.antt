use Rattle.std.proofs.Common.{arith, sym, subst}
use Rattle.std.proofs.lemmas.Int.{ints, to_z-of_z}
use mir.Syntax.{w64}
use mir.Val.{SFits}
use Rattle.picture.specs.Shapes.{IsExtent}
use Rattle.picture.proofs.drawing.sized.Goals as goal

pub area-requires : goal.area-requires
area-requires c =
    let size = c.requires.size c.in-Dim.w c.in-Dim.h c.in-Dim.is in
    let fits_w : SFits w64 c.ticks.result = omega (arith, ints) in
    let fits_h : SFits w64 c.ticks-in-Dim.result = omega (arith, ints) in
    simp to_z-of_z (subst IsExtent (sym c.ticks.ensures.value) size.0, subst IsExtent (sym c.ticks-in-Dim.ensures.value) size.1)

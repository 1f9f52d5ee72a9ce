use Rattle.std.proofs.Common.{◌++◌, List, ℕ, codes, append_assoc, arith}
use Rattle.std.proofs.lemmas.Int.{ints, to_z-of_z}
use mir.Syntax.{w64}
use mir.Val.{SFits}
use Rattle.desk_io.proofs.Growth.{Grew-then}
use Rattle.desk_io.proofs.Writing.{first_failed, next_failed, last_writes}
use Rattle.picture.specs.declared.piece.Measure.{Measure}
use Rattle.svg_out.specs.Svg.{shapes_text, svg_text}
use Rattle.svg_out.proofs.writing.write_svg.Goals as goal

pub returns-in_err-write_head-clause-bytes : goal.returns-in_err-write_head-clause-bytes
unfolding svg_text
returns-in_err-write_head-clause-bytes g c =
    let fits_w : SFits w64 c.args.picture.now.w = omega (arith, ints, c.requires.width.0, c.requires.width.1) in
    let fits_h : SFits w64 c.args.picture.now.h = omega (arith, ints, c.requires.height.0, c.requires.height.1) in
    let h : Measure = record { ticks = c.args.picture.now.h } in
    let shapes : List ℕ = shapes_text h c.args.names.now c.args.picture.now.shapes in
    first_failed _ _ _ _ _ _ (shapes ++ codes "</svg>\n") _ c.from_residual.ensures.0 c.in_err-write_head.ensures.bytes
    (simp to_z-of_z (append_assoc _ shapes (codes "</svg>\n")))

pub returns-in_err-write_shapes-clause-bytes : goal.returns-in_err-write_shapes-clause-bytes
unfolding svg_text
returns-in_err-write_shapes-clause-bytes g c =
    let fits_w : SFits w64 c.args.picture.now.w = omega (arith, ints, c.requires.width.0, c.requires.width.1) in
    let fits_h : SFits w64 c.args.picture.now.h = omega (arith, ints, c.requires.height.0, c.requires.height.1) in
    next_failed _ _ _ _ _ _ _ _ _ (codes "</svg>\n") _
    c.from_residual-in_err-write_shapes.ensures.0 c.in_ok-write_head.ensures.bytes c.in_err-write_shapes.ensures.bytes
    (simp (to_z-of_z, c.as_slice.ensures))

pub returns-clause-bytes : goal.returns-clause-bytes
unfolding svg_text
returns-clause-bytes g c =
    let fits_w : SFits w64 c.args.picture.now.w = omega (arith, ints, c.requires.width.0, c.requires.width.1) in
    let fits_h : SFits w64 c.args.picture.now.h = omega (arith, ints, c.requires.height.0, c.requires.height.1) in
    last_writes c.push.result _ _ _ _ _ _ _ (codes "</svg>\n") _
    (Grew-then _ _ _ _ _ _ _ _ c.in_ok-write_head.ensures.bytes c.in_ok-write_shapes.ensures.bytes) c.push.ensures.bytes
    (simp (to_z-of_z, c.as_slice.ensures))

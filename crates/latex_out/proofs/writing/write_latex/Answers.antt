use Rattle.std.proofs.Common.{◌++◌, List, ℕ, codes, append_assoc, arith}
use Rattle.std.proofs.lemmas.Int.{ints, to_z-of_z}
use mir.Syntax.{w64}
use mir.Val.{SFits}
use Rattle.desk_io.proofs.Growth.{Grew-then}
use Rattle.desk_io.proofs.Writing.{first_failed, next_failed, last_writes}
use Rattle.picture.specs.declared.piece.Measure.{Measure}
use Rattle.latex_out.specs.Latex.{shapes_text, latex_text}
use Rattle.latex_out.proofs.writing.write_latex.Goals as goal

pub returns-in_err-write_head-clause-bytes : goal.returns-in_err-write_head-clause-bytes
unfolding latex_text
returns-in_err-write_head-clause-bytes g c =
    let fits_w : SFits w64 c.args.picture.now.w = omega (arith, ints, c.requires.width.0, c.requires.width.1) in
    let fits_h : SFits w64 c.args.picture.now.h = omega (arith, ints, c.requires.height.0, c.requires.height.1) in
    let h : Measure = record { ticks = c.args.picture.now.h } in
    let shapes : List ℕ = shapes_text c.args.names.now c.args.picture.now.shapes in
    first_failed _ _ _ _ _ _ (shapes ++ codes "\\end{picture}\n") _ c.from_residual.ensures.0 c.in_err-write_head.ensures.bytes
    (simp to_z-of_z (append_assoc _ shapes (codes "\\end{picture}\n")))

pub returns-in_err-write_shapes-clause-bytes : goal.returns-in_err-write_shapes-clause-bytes
unfolding latex_text
returns-in_err-write_shapes-clause-bytes g c =
    let fits_w : SFits w64 c.args.picture.now.w = omega (arith, ints, c.requires.width.0, c.requires.width.1) in
    let fits_h : SFits w64 c.args.picture.now.h = omega (arith, ints, c.requires.height.0, c.requires.height.1) in
    next_failed _ _ _ _ _ _ _ _ _ (codes "\\end{picture}\n") _
    c.from_residual-in_err-write_shapes.ensures.0 c.in_ok-write_head.ensures.bytes c.in_err-write_shapes.ensures.bytes
    (simp (to_z-of_z, c.as_slice.ensures))

pub returns-clause-bytes : goal.returns-clause-bytes
unfolding latex_text
returns-clause-bytes g c =
    let fits_w : SFits w64 c.args.picture.now.w = omega (arith, ints, c.requires.width.0, c.requires.width.1) in
    let fits_h : SFits w64 c.args.picture.now.h = omega (arith, ints, c.requires.height.0, c.requires.height.1) in
    last_writes c.push.result _ _ _ _ _ _ _ (codes "\\end{picture}\n") _
    (Grew-then _ _ _ _ _ _ _ _ c.in_ok-write_head.ensures.bytes c.in_ok-write_shapes.ensures.bytes) c.push.ensures.bytes
    (simp (to_z-of_z, c.as_slice.ensures))

use Rattle.std.proofs.Common.{◌+◌, take, drop, arith}
use Rattle.desk_io.proofs.Growth.{Grew-more}
use Rattle.desk_io.proofs.Writing.{next_failed, pieces_more, pieces_split}
use Rattle.picture.specs.declared.shape.Ink.{Ink}
use Rattle.picture.specs.declared.shape.Shape.{Shape}
use Rattle.latex_out.specs.Latex.{shape_text, shapes_text}
use Rattle.latex_out.proofs.writing.write_shapes.Goals as goal

pub returns-in_err-write_shape-clause-bytes : goal.returns-in_err-write_shape-clause-bytes
returns-in_err-write_shape-clause-bytes g c =
    next_failed _ _ _ _ _ _ _ (shapes_text c.args.names.now (take c.loop-ink.ink-index c.args.shapes.now)) _
    (shapes_text c.args.names.now (drop (c.loop-ink.ink-index + 1) c.args.shapes.now)) _
    c.from_residual.ensures.0 c.loop-ink.invariant.grew c.in_err-write_shape.ensures.bytes
    (pieces_split (λ (item : Ink × Shape). shape_text c.args.names.now item.0 item.1) c.args.shapes.now c.loop-ink.ink-index _ (omega arith))

pub loop-ink-preserved : goal.loop-ink-preserved
loop-ink-preserved g c = record {
  later = omega (arith, c.in_ok-write_shape.ensures.cause.later);
  grew = Grew-more _ _ _ _ _ _ _ _ _ c.loop-ink.invariant.grew c.in_ok-write_shape.ensures.bytes
      (pieces_more (λ (item : Ink × Shape). shape_text c.args.names.now item.0 item.1) c.args.shapes.now c.loop-ink.ink-index _ (omega arith));
}

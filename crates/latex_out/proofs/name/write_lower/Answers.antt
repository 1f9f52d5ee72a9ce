use Rattle.std.proofs.Common.{◌+◌, take, drop, arith}
use Rattle.desk_io.proofs.Growth.{Grew-more}
use Rattle.desk_io.proofs.Writing.{next_failed, pieces_more, pieces_split}
use Rattle.std.specs.List.{flat_map}
use Rattle.latex_out.specs.Latex.{lower_text}
use Rattle.latex_out.proofs.name.write_lower.Goals as goal

pub returns-in_err-write_lower_byte-clause-bytes : goal.returns-in_err-write_lower_byte-clause-bytes
returns-in_err-write_lower_byte-clause-bytes g c =
    next_failed _ _ _ _ _ _ _ (flat_map lower_text (take c.loop-b.b-index c.args.bytes.now)) _
    (flat_map lower_text (drop (c.loop-b.b-index + 1) c.args.bytes.now)) _
    c.from_residual.ensures.0 c.loop-b.invariant.grew c.in_err-write_lower_byte.ensures.bytes
    (pieces_split lower_text c.args.bytes.now c.loop-b.b-index _ (omega arith))

pub loop-b-preserved : goal.loop-b-preserved
loop-b-preserved g c = record {
  later = omega (arith, c.in_ok-write_lower_byte.ensures.cause.later);
  grew = Grew-more _ _ _ _ _ _ _ _ _ c.loop-b.invariant.grew c.in_ok-write_lower_byte.ensures.bytes
      (pieces_more lower_text c.args.bytes.now c.loop-b.b-index _ (omega arith));
}

use Rattle.std.proofs.Common.{◌+◌, take, drop, arith}
use Rattle.desk_io.proofs.Growth.{Grew-more}
use Rattle.desk_io.proofs.Writing.{next_failed}
use Rattle.std.specs.List.{flat_map}
use Rattle.proof_log.specs.Writing.{piece_text}
use Rattle.proof_log.proofs.Written.{item_more, item_split}
use Rattle.proof_log.proofs.writing.write_pieces.Goals as goal

pub returns-in_err-write_piece-clause-bytes : goal.returns-in_err-write_piece-clause-bytes
returns-in_err-write_piece-clause-bytes g c =
    next_failed _ _ _ _ _ _ _ (flat_map (piece_text c.args.vars.now) (take c.loop-piece.piece-index c.args.pieces.now)) _ (flat_map (piece_text c.args.vars.now) (drop (c.loop-piece.piece-index + 1) c.args.pieces.now)) _
    c.from_residual.ensures.0 c.loop-piece.invariant.grew c.in_err-write_piece.ensures.bytes
    (item_split (piece_text c.args.vars.now) c.args.pieces.now c.loop-piece.piece-index c.piece-item.result (omega arith) c.piece-item.is)

pub loop-piece-preserved : goal.loop-piece-preserved
loop-piece-preserved g c = record {
  later = omega (arith, c.in_ok-write_piece.ensures.cause.later);
  grew = Grew-more _ _ _ _ _ _ _ _ _ c.loop-piece.invariant.grew c.in_ok-write_piece.ensures.bytes
      (item_more (piece_text c.args.vars.now) c.args.pieces.now c.loop-piece.piece-index c.piece-item.result (omega arith) c.piece-item.is);
}

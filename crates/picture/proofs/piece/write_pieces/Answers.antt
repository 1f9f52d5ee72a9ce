use Rattle.std.proofs.Common.{◌+◌, take, drop, arith}
use Rattle.desk_io.proofs.Growth.{Grew-more}
use Rattle.desk_io.proofs.Writing.{next_failed, pieces_more, pieces_split}
use Rattle.picture.specs.Pieces.{piece_text, pieces_text}
use Rattle.picture.proofs.piece.write_pieces.Goals as goal

pub returns-in_err-write_piece-clause-bytes : goal.returns-in_err-write_piece-clause-bytes
returns-in_err-write_piece-clause-bytes g c =
    next_failed _ _ _ _ _ _ _ (pieces_text (take c.loop-piece.piece-index c.args.pieces.now)) _
    (pieces_text (drop (c.loop-piece.piece-index + 1) c.args.pieces.now)) _
    c.from_residual.ensures.0 c.loop-piece.invariant.grew c.in_err-write_piece.ensures.bytes
    (pieces_split piece_text c.args.pieces.now c.loop-piece.piece-index _ (omega arith))

pub loop-piece-preserved : goal.loop-piece-preserved
loop-piece-preserved g c = record {
  later = omega (arith, c.in_ok-write_piece.ensures.cause.later);
  grew = Grew-more _ _ _ _ _ _ _ _ _ c.loop-piece.invariant.grew c.in_ok-write_piece.ensures.bytes
      (pieces_more piece_text c.args.pieces.now c.loop-piece.piece-index _ (omega arith));
}

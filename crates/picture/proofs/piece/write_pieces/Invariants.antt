use Rattle.std.proofs.Common.{◌≤◌, take}
use Rattle.desk_io.specs.Bytes.{Grew}
use Rattle.picture.specs.Pieces.{pieces_text}
use Rattle.picture.proofs.piece.write_pieces.Given as goal

abbrev pub invariant-loop-piece : goal.invariant-loop-piece
invariant-loop-piece g l = record {
  later : g.S.Sink.faults l.fn.sink ≤ g.S.Sink.faults l.sink;
  grew : Grew (g.S.Sink.written l.fn.sink) (g.S.Sink.written l.sink) l.fn.pen l.pen (pieces_text (take l.piece-index l.pieces));
}

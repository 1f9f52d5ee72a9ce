use Rattle.std.proofs.Common.{◌≤◌, take}
use Rattle.desk_io.specs.Bytes.{Grew}
use Rattle.proof_log.specs.Writing.{polynomials_text}
use Rattle.proof_log.proofs.writing.write_polynomials.Given as goal

abbrev pub invariant-loop-p : goal.invariant-loop-p
invariant-loop-p g l = record {
  later : g.S.Sink.faults l.fn.sink ≤ g.S.Sink.faults l.sink;
  grew : Grew (g.S.Sink.written l.fn.sink) (g.S.Sink.written l.sink) l.fn.pen l.pen (polynomials_text l.word l.vars (take l.p-index l.polynomials));
}

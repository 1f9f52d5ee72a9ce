use Rattle.std.proofs.Common.{◌≡◌, ◌≤◌, ◌+◌, All, length}
use Rattle.desk_io.proofs.Going.{Going}
use Rattle.proof_log.specs.Own.{IsOwn}
use Rattle.proof_log.specs.Writing.{proofs_text}
use Rattle.proof_log.proofs.writing.write_proofs.Given as goal

abbrev pub invariant-loop-proof : goal.invariant-loop-proof
invariant-loop-proof g l = record {
  later : g.S.Sink.faults l.fn.sink ≤ g.S.Sink.faults l.sink;
  number : l.number + length l.rest ≡ 1 + length l.fn.proofs;
  own : All IsOwn l.rest;
  going : Going (g.S.Sink.written l.fn.sink) (g.S.Sink.written l.sink) l.fn.pen l.pen (proofs_text 1 l.fn.proofs) (proofs_text l.number l.rest);
}

abbrev pub decreases-loop-proof : goal.decreases-loop-proof
decreases-loop-proof g l = length l.rest

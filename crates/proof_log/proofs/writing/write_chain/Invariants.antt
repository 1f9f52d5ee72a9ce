use Rattle.std.proofs.Common.{◌≤◌, take}
use Rattle.desk_io.specs.Bytes.{Grew}
use Rattle.std.specs.List.{flat_map}
use Rattle.proof_log.specs.Writing.{chain_text}
use Rattle.proof_log.proofs.writing.write_chain.Given as goal

abbrev pub invariant-loop-step : goal.invariant-loop-step
invariant-loop-step g l = record {
  later : g.S.Sink.faults l.fn.sink ≤ g.S.Sink.faults l.sink;
  grew : Grew (g.S.Sink.written l.fn.sink) (g.S.Sink.written l.sink) l.fn.pen l.pen (flat_map (chain_text l.vars) (take l.step-index l.chain));
}

use Rattle.std.proofs.Common.{◌≤◌, length}
use Rattle.desk_io.proofs.Going.{Going}
use Rattle.command_line.specs.Samples.{values_text}
use Rattle.command_line.proofs.sampling.write_values.Given as goal

abbrev pub invariant-loop-value : goal.invariant-loop-value
invariant-loop-value g l = record {
  later : g.S.Sink.faults l.fn.sink ≤ g.S.Sink.faults l.sink;
  going : Going (g.S.Sink.written l.fn.sink) (g.S.Sink.written l.sink) l.fn.pen l.pen (values_text l.fn.point) (values_text l.rest);
}

abbrev pub decreases-loop-value : goal.decreases-loop-value
decreases-loop-value g l = length l.rest

use Rattle.std.proofs.Common.{◌≡◌, ◌≤◌, ◌+◌, length}
use Rattle.desk_io.proofs.Going.{Going}
use Rattle.command_line.specs.Samples.{samples_from}
use Rattle.command_line.proofs.sampling.write_samples.Given as goal

abbrev pub invariant-loop-found : goal.invariant-loop-found
invariant-loop-found g l = record {
  later : g.S.Sink.faults l.fn.sink ≤ g.S.Sink.faults l.sink;
  number : l.number + length l.rest ≡ 1 + length l.fn.all;
  going : Going (g.S.Sink.written l.fn.sink) (g.S.Sink.written l.sink) l.fn.pen l.pen (samples_from 1 l.fn.all) (samples_from l.number l.rest);
}

abbrev pub decreases-loop-found : goal.decreases-loop-found
decreases-loop-found g l = length l.rest

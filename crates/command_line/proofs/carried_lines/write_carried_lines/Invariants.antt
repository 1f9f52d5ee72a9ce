use Rattle.std.proofs.Common.{◌≡◌, ◌≤◌, ◌+◌, length}
use Rattle.desk_io.proofs.Going.{Going}
use Rattle.command_line.specs.Carrying.{carried_lines}
use Rattle.command_line.proofs.carried_lines.write_carried_lines.Given as goal

abbrev pub invariant-loop-carried : goal.invariant-loop-carried
invariant-loop-carried g l = record {
  later : g.S.Sink.faults l.fn.sink ≤ g.S.Sink.faults l.sink;
  number : l.number + length l.rest ≡ 1 + length l.fn.all;
  going : Going (g.S.Sink.written l.fn.sink) (g.S.Sink.written l.sink) l.fn.pen l.pen (carried_lines 1 l.fn.all) (carried_lines l.number l.rest);
}

abbrev pub decreases-loop-carried : goal.decreases-loop-carried
decreases-loop-carried g l = length l.rest

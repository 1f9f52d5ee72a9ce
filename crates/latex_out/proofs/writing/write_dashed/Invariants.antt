use Rattle.std.proofs.Common.{◌≤◌, ◌+◌}
use Rattle.desk_io.specs.Bytes.{Grew}
use Rattle.latex_out.specs.Latex.{in_turn, dash_text}
use Rattle.latex_out.proofs.writing.write_dashed.Given as goal

abbrev pub invariant-loop-i : goal.invariant-loop-i
invariant-loop-i g l = record {
  within : l.i ≤ l.dashes;
  later : g.S.Sink.faults l.fn.sink ≤ g.S.Sink.faults l.sink;
  grew : Grew (g.S.Sink.written l.fn.sink) (g.S.Sink.written l.sink) l.fn.pen l.pen (in_turn (dash_text l.fn.ink l.fn.a l.fn.b (l.dashes + l.gaps)) l.i);
}

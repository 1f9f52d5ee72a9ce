use Rattle.std.proofs.Common.{◌≤◌, take}
use Rattle.desk_io.specs.Bytes.{Grew}
use Rattle.std.specs.List.{flat_map}
use Rattle.latex_out.specs.Latex.{lower_text}
use Rattle.latex_out.proofs.name.write_lower.Given as goal

abbrev pub invariant-loop-b : goal.invariant-loop-b
invariant-loop-b g l = record {
  later : g.S.Sink.faults l.fn.sink ≤ g.S.Sink.faults l.sink;
  grew : Grew (g.S.Sink.written l.fn.sink) (g.S.Sink.written l.sink) l.fn.pen l.pen (flat_map lower_text (take l.b-index l.bytes));
}

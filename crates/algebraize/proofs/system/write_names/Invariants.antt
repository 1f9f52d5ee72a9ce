use Rattle.std.proofs.Common.{◌≤◌, drop}
use Rattle.desk_io.proofs.Going.{Going}
use Rattle.algebraize.specs.System.{names_text}
use Rattle.algebraize.proofs.system.write_names.Given as goal

abbrev pub invariant-loop-i : goal.invariant-loop-i
invariant-loop-i g l = record {
  later : g.S.Sink.faults l.fn.sink ≤ g.S.Sink.faults l.sink;
  going : Going (g.S.Sink.written l.fn.sink) (g.S.Sink.written l.sink) l.fn.pen l.pen (names_text l.vars) (names_text (drop l.i l.vars));
}

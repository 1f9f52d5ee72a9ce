use Rattle.std.proofs.Common.{◌≤◌, take}
use Rattle.desk_io.specs.Bytes.{Grew}
use Rattle.gcl_reader.specs.Show.{show_text}
use Rattle.gcl_reader.proofs.showing.write_commands.Given as goal

abbrev pub invariant-loop-command : goal.invariant-loop-command
invariant-loop-command g l = record {
  later : g.S.Sink.faults l.fn.sink ≤ g.S.Sink.faults l.sink;
  grew : Grew (g.S.Sink.written l.fn.sink) (g.S.Sink.written l.sink) l.fn.pen l.pen (show_text (take l.command-index l.commands));
}

use Rattle.std.proofs.Common.{◌≡◌, ◌≤◌, take}
use Rattle.std.specs.List.{flat_map}
use Rattle.std.specs.Io.KnownBytes.{append_known}
use Rattle.command_line.proofs.stage.put_each.Given as goal

abbrev pub invariant-loop-line : goal.invariant-loop-line
invariant-loop-line g l = record {
  later : g.N.Sink.faults l.fn.notes ≤ g.N.Sink.faults l.notes;
  put : g.N.Sink.written l.notes ≡ append_known (g.N.Sink.written l.fn.notes) (flat_map (λ line. line.items) (take l.line-index l.lines));
}

use Rattle.std.proofs.Common.{◌≤◌, ◌<◌, ◌^◌}
use Rattle.fixed_point.specs.declared.limits.TheConstants.{MOST_DECIMALS}
use Rattle.fixed_point.specs.Text.{decimals_text}
use Rattle.desk_io.proofs.Going.{Going}
use Rattle.fixed_point.proofs.writing.write_digits.Given as goal

abbrev pub invariant-loop-left : goal.invariant-loop-left
invariant-loop-left g l = record {
  places : l.place ≤ MOST_DECIMALS;
  below_one : l.left < 10 ^ l.place;
  later : g.S.Sink.faults l.fn.sink ≤ g.S.Sink.faults l.sink;
  going : Going (g.S.Sink.written l.fn.sink) (g.S.Sink.written l.sink) l.fn.pen l.pen (decimals_text l.places l.units) (decimals_text l.place l.left);
}

abbrev pub decreases-loop-left : goal.decreases-loop-left
decreases-loop-left g l = l.place

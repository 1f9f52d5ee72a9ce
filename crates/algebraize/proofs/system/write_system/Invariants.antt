use Rattle.std.proofs.Common.{◌≡◌, ◌≤◌, ◌+◌, length, map, IsTrue}
use Rattle.std.specs.List.{list_all}
use Rattle.desk_io.proofs.Going.{Going}
use Rattle.algebraize.specs.Formed.{equations, is_own}
use Rattle.algebraize.specs.System.{problems_text}
use Rattle.algebraize.proofs.system.write_system.Given as goal

abbrev pub invariant-loop-problem : goal.invariant-loop-problem
invariant-loop-problem g l = record {
  later : g.S.Sink.faults l.fn.sink ≤ g.S.Sink.faults l.sink;
  number : l.number + length l.rest ≡ 1 + length l.fn.problems;
  own : IsTrue (list_all is_own l.rest);
  going : Going (g.S.Sink.written l.fn.sink) (g.S.Sink.written l.sink) l.fn.pen l.pen
      (problems_text 1 (map equations l.fn.problems)) (problems_text l.number (map equations l.rest));
}

abbrev pub decreases-loop-problem : goal.decreases-loop-problem
decreases-loop-problem g l = length l.rest

use Rattle.std.proofs.Common.{◌≡◌, ◌≤◌, ◌+◌, length}
use Rattle.desk_io.proofs.Going.{Going}
use Rattle.command_line.specs.Found.{AreOver}
use Rattle.command_line.specs.VerdictLines.{verdicts_text}
use Rattle.command_line.proofs.VerdictLines.{text_from}
use Rattle.command_line.proofs.checking.write_verdicts.Given as goal

abbrev pub invariant-loop-problem : goal.invariant-loop-problem
invariant-loop-problem g l = record {
  later : g.S.Sink.faults l.fn.out ≤ g.S.Sink.faults l.out;
  number : l.number + length l.left ≡ 1 + length l.fn.problems;
  own : AreOver l.left l.told;
  going : Going (g.S.Sink.written l.fn.out) (g.S.Sink.written l.out) l.fn.pen l.pen (verdicts_text l.fn.problems l.fn.verdicts) (text_from l.number l.left l.told);
}

abbrev pub decreases-loop-problem : goal.decreases-loop-problem
decreases-loop-problem g l = length l.left

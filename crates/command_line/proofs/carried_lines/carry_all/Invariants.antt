use Rattle.std.proofs.Common.{◌≡◌, ◌+◌, ◌++◌, length}
use Rattle.command_line.specs.Carrying.{all_carried}
use Rattle.command_line.proofs.carried_lines.carry_all.Given as goal

abbrev pub invariant-loop-problem : goal.invariant-loop-problem
invariant-loop-problem l = record {
  number : l.number + length l.left ≡ length l.fn.problems;
  value : l.all.items ++ all_carried l.fn.program.acts l.fn.figure l.number l.left l.told ≡ all_carried l.fn.program.acts l.fn.figure 0 l.fn.problems l.fn.verdicts;
}

abbrev pub decreases-loop-problem : goal.decreases-loop-problem
decreases-loop-problem l = length l.left

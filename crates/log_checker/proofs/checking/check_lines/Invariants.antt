use Rattle.log_checker.proofs.Passes.{Sofar}
use Rattle.log_checker.proofs.checking.check_lines.Given as goal

abbrev pub invariant-loop-line : goal.invariant-loop-line
invariant-loop-line l = record { sofar : Sofar l.fn.progress l.fn.lines.items l.yielded l.line-iterator.rest.items l.progress l.count }

use Rattle.std.proofs.Common.{◌≡◌, ◌+◌, length}
use Rattle.algebraize.specs.Problem.{acts_before}
use Rattle.algebraize.proofs.problem.acts_before.Given as goal

abbrev pub invariant-loop-act : goal.invariant-loop-act
invariant-loop-act l = record {
  value : l.passed + acts_before l.left l.rest ≡ acts_before l.fn.prove l.fn.acts;
  passed : l.passed + length l.rest ≡ length l.fn.acts;
}

abbrev pub decreases-loop-act : goal.decreases-loop-act
decreases-loop-act l = length l.rest

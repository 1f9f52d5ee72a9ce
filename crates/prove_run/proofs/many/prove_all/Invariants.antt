use Rattle.std.proofs.Common.{All}
use Rattle.proof_steps.specs.Stated.{IsStated}
use Rattle.prove_run.proofs.Proved.{AreProved}
use Rattle.prove_run.proofs.many.prove_all.Given as goal

abbrev pub invariant-loop-problem : goal.invariant-loop-problem
invariant-loop-problem g l = record {
  next : (goal.iterator-loop-problem g).can_next l.problem-iterator;
  finite : (goal.iterator-loop-problem g).is_finite l.problem-iterator;
  stated : All IsStated l.problem-iterator.rest.items;
  proved : AreProved l.fuel l.yielded l.proofs.items;
}

use Rattle.std.proofs.Common.{◌≤◌, All}
use Rattle.poly_model.specs.declared.limits.TheConstants.{EXPAND_UNITS}
use Rattle.term_region.specs.Holding.{held_by}
use Rattle.proof_steps.specs.Stated.{IsStated}
use Rattle.prove_run.proofs.Proved.{AreProved}
use Rattle.prove_run.proofs.proving.prove_all.Given as goal

abbrev pub invariant-loop-problem : goal.invariant-loop-problem
invariant-loop-problem l = record {
  next : (goal.iterator-loop-problem).can_next l.problem-iterator;
  finite : (goal.iterator-loop-problem).is_finite l.problem-iterator;
  stated : All IsStated l.problem-iterator.rest.items;
  room : EXPAND_UNITS ≤ (held_by l.store).spare;
  proved : AreProved l.fuel l.yielded l.proofs.items;
}

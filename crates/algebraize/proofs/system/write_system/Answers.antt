use Rattle.std.proofs.Common.{arith}
use Rattle.desk_io.proofs.Going.{wrote, stopped}
use Rattle.algebraize.proofs.Texts as lines
use Rattle.algebraize.proofs.system.write_system.Goals as goal

pub write_problem-requires : goal.write_problem-requires
write_problem-requires g c = (lines.own_first c.loop-problem.rest.now c.in-Some.tail.now c.in-Some.problem.now c.in-Some.ensures.cases.0 c.loop-problem.invariant.own).0

pub returns-in_err-write_problem-clause-bytes : goal.returns-in_err-write_problem-clause-bytes
returns-in_err-write_problem-clause-bytes g c =
    stopped _ _ _ _ _ _ _ _ _ _ _ c.from_residual.ensures.0 c.loop-problem.invariant.going
    (lines.problems_next c.loop-problem.number c.loop-problem.rest.now c.in-Some.tail.now c.in-Some.problem.now c.in-Some.ensures.cases.0) c.in_err-write_problem.ensures.bytes

pub loop-problem-preserved : goal.loop-problem-preserved
loop-problem-preserved g c = record {
  later = omega (arith, c.in_ok-write_problem.ensures.cause.later);
  number = omega (arith, c.in-Some.ensures.cases.1, c.loop-problem.invariant.number);
  own = (lines.own_first c.loop-problem.rest.now c.in-Some.tail.now c.in-Some.problem.now c.in-Some.ensures.cases.0 c.loop-problem.invariant.own).1;
  going = wrote _ _ _ _ _ _ _ _ _ _ c.loop-problem.invariant.going
      (lines.problems_next c.loop-problem.number c.loop-problem.rest.now c.in-Some.tail.now c.in-Some.problem.now c.in-Some.ensures.cases.0) c.in_ok-write_problem.ensures.bytes;
}

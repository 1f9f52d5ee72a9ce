use Rattle.std.proofs.Common.{arith}
use Rattle.desk_io.proofs.Going.{wrote, stopped}
use Rattle.command_line.proofs.VerdictLines.{first_line, over_next}
use Rattle.command_line.proofs.checking.write_verdicts.Goals as goal

pub write_verdict_line-requires : goal.write_verdict_line-requires
write_verdict_line-requires g c =
    (over_next _ _ _ _ _ _ c.in-Some.ensures.cases.0 c.in-Some-split_first.ensures.cases.0 c.loop-problem.invariant.own).0

pub returns-in_err-write_verdict_line-clause-bytes : goal.returns-in_err-write_verdict_line-clause-bytes
returns-in_err-write_verdict_line-clause-bytes g c =
    stopped _ _ _ _ _ _ _ _ _ _ _ c.from_residual.ensures.0 c.loop-problem.invariant.going
    (first_line c.loop-problem.number _ _ _ _ _ _ c.in-Some.ensures.cases.0 c.in-Some-split_first.ensures.cases.0) c.in_err-write_verdict_line.ensures.bytes

pub loop-problem-preserved : goal.loop-problem-preserved
loop-problem-preserved g c = record {
  later = omega (arith, c.in_ok-write_verdict_line.ensures.cause.later);
  number = omega (arith, c.in-Some.ensures.cases.1, c.loop-problem.invariant.number);
  own = (over_next _ _ _ _ _ _ c.in-Some.ensures.cases.0 c.in-Some-split_first.ensures.cases.0 c.loop-problem.invariant.own).1;
  going = wrote _ _ _ _ _ _ _ _ _ _ c.loop-problem.invariant.going
      (first_line c.loop-problem.number _ _ _ _ _ _ c.in-Some.ensures.cases.0 c.in-Some-split_first.ensures.cases.0) c.in_ok-write_verdict_line.ensures.bytes;
}

use Rattle.std.proofs.Common.{ap, arith}
use Rattle.desk_io.proofs.Going.{wrote, stopped}
use Rattle.command_line.specs.Carrying.{carried_lines}
use Rattle.command_line.proofs.carried_lines.write_carried_lines.Goals as goal

pub returns-in_err-write_carried_line-clause-bytes : goal.returns-in_err-write_carried_line-clause-bytes
returns-in_err-write_carried_line-clause-bytes g c =
    stopped _ _ _ _ _ _ _ _ _ _ _ c.from_residual.ensures.0 c.loop-carried.invariant.going (ap (carried_lines c.loop-carried.number) c.in-Some.ensures.cases.0) c.in_err-write_carried_line.ensures.bytes

pub loop-carried-preserved : goal.loop-carried-preserved
loop-carried-preserved g c = record {
  later = omega (arith, c.in_ok-write_carried_line.ensures.cause.later);
  number = omega (arith, c.in-Some.ensures.cases.1, c.loop-carried.invariant.number);
  going = wrote _ _ _ _ _ _ _ _ _ _ c.loop-carried.invariant.going (ap (carried_lines c.loop-carried.number) c.in-Some.ensures.cases.0) c.in_ok-write_carried_line.ensures.bytes;
}

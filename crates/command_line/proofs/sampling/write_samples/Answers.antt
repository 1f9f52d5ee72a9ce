use Rattle.std.proofs.Common.{ap, arith}
use Rattle.desk_io.proofs.Going.{wrote, stopped}
use Rattle.command_line.specs.Samples.{samples_from}
use Rattle.command_line.proofs.sampling.write_samples.Goals as goal

pub returns-in_err-write_line-clause-bytes : goal.returns-in_err-write_line-clause-bytes
returns-in_err-write_line-clause-bytes g c =
    stopped _ _ _ _ _ _ _ _ _ _ _ c.from_residual.ensures.0 c.loop-found.invariant.going (ap (samples_from c.loop-found.number) c.in-Some.ensures.cases.0) c.in_err-write_line.ensures.bytes

pub loop-found-preserved : goal.loop-found-preserved
loop-found-preserved g c = record {
  later = omega (arith, c.in_ok-write_line.ensures.cause.later);
  number = omega (arith, c.in-Some.ensures.cases.1, c.loop-found.invariant.number);
  going = wrote _ _ _ _ _ _ _ _ _ _ c.loop-found.invariant.going (ap (samples_from c.loop-found.number) c.in-Some.ensures.cases.0) c.in_ok-write_line.ensures.bytes;
}

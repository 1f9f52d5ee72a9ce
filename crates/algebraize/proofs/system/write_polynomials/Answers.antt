use Rattle.std.proofs.Common.{length, arith}
use Rattle.desk_io.proofs.Going.{wrote, stopped}
use Rattle.algebraize.proofs.Texts as lines
use Rattle.algebraize.proofs.system.write_polynomials.Goals as goal

pub write_polynomial-requires : goal.write_polynomial-requires
write_polynomial-requires g c = (lines.over_first (length c.args.vars.now) c.loop-p.rest.now c.in-Some.tail.now c.in-Some.p.now c.in-Some.ensures.cases.0 c.loop-p.invariant.over).0

pub returns-in_err-write_polynomial-clause-bytes : goal.returns-in_err-write_polynomial-clause-bytes
returns-in_err-write_polynomial-clause-bytes g c =
    stopped _ _ _ _ _ _ _ _ _ _ _ c.from_residual.ensures.0 c.loop-p.invariant.going
    (lines.lines_next c.args.word.now c.args.vars.now c.loop-p.rest.now c.in-Some.tail.now c.in-Some.p.now c.in-Some.ensures.cases.0) c.in_err-write_polynomial.ensures.bytes

pub loop-p-preserved : goal.loop-p-preserved
loop-p-preserved g c = record {
  later = omega (arith, c.in_ok-write_polynomial.ensures.cause.later);
  over = (lines.over_first (length c.args.vars.now) c.loop-p.rest.now c.in-Some.tail.now c.in-Some.p.now c.in-Some.ensures.cases.0 c.loop-p.invariant.over).1;
  going = wrote _ _ _ _ _ _ _ _ _ _ c.loop-p.invariant.going
      (lines.lines_next c.args.word.now c.args.vars.now c.loop-p.rest.now c.in-Some.tail.now c.in-Some.p.now c.in-Some.ensures.cases.0) c.in_ok-write_polynomial.ensures.bytes;
}

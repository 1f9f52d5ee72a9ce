use Rattle.std.proofs.Common.{◌+◌, take, drop, arith}
use Rattle.desk_io.proofs.Growth.{Grew-more}
use Rattle.desk_io.proofs.Writing.{next_failed}
use Rattle.proof_log.specs.Writing.{polynomial_line, polynomials_text}
use Rattle.proof_log.proofs.Written.{item_more, item_split}
use Rattle.proof_log.proofs.writing.write_polynomials.Goals as goal

pub returns-in_err-write_row-clause-bytes : goal.returns-in_err-write_row-clause-bytes
returns-in_err-write_row-clause-bytes g c =
    next_failed _ _ _ _ _ _ _ (polynomials_text c.args.word c.args.vars.now (take c.loop-p.p-index c.args.polynomials.now)) _ (polynomials_text c.args.word c.args.vars.now (drop (c.loop-p.p-index + 1) c.args.polynomials.now)) _
    c.from_residual.ensures.0 c.loop-p.invariant.grew c.in_err-write_row.ensures.bytes
    (item_split (polynomial_line c.args.word c.args.vars.now) c.args.polynomials.now c.loop-p.p-index c.p-item.result (omega arith) c.p-item.is)

pub loop-p-preserved : goal.loop-p-preserved
loop-p-preserved g c = record {
  later = omega (arith, c.in_ok-write_row.ensures.cause.later);
  grew = Grew-more _ _ _ _ _ _ _ _ _ c.loop-p.invariant.grew c.in_ok-write_row.ensures.bytes
      (item_more (polynomial_line c.args.word c.args.vars.now) c.args.polynomials.now c.loop-p.p-index c.p-item.result (omega arith) c.p-item.is);
}

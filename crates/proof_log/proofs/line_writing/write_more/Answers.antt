use Rattle.std.proofs.Common.{◌+◌, ◌++◌, codes, take, drop, arith}
use Rattle.desk_io.proofs.Growth.{Grew-more}
use Rattle.desk_io.proofs.Writing.{next_failed}
use Rattle.poly_text.specs.Text.{poly_text}
use Rattle.proof_log.specs.Text.{more_text}
use Rattle.proof_log.proofs.Written.{item_more, item_split}
use Rattle.proof_log.proofs.line_writing.write_more.Goals as goal

pub returns-in_err-write_poly-clause-bytes : goal.returns-in_err-write_poly-clause-bytes
returns-in_err-write_poly-clause-bytes g c =
    next_failed _ _ _ _ _ _ _ (more_text c.args.vars.now (take c.loop-p.p-index c.args.polynomials.now)) _ (more_text c.args.vars.now (drop (c.loop-p.p-index + 1) c.args.polynomials.now)) _
    c.from_residual.ensures.0 c.loop-p.invariant.grew c.in_err-write_poly.ensures.bytes
    (item_split (λ p. codes "; " ++ poly_text c.args.vars.now p) c.args.polynomials.now c.loop-p.p-index c.p-item.result (omega arith) c.p-item.is)

pub loop-p-preserved : goal.loop-p-preserved
loop-p-preserved g c = record {
  later = omega (arith, c.in_ok-write_poly.ensures.cause.later);
  grew = Grew-more _ _ _ _ _ _ _ _ _ c.loop-p.invariant.grew c.in_ok-write_poly.ensures.bytes
      (item_more (λ p. codes "; " ++ poly_text c.args.vars.now p) c.args.polynomials.now c.loop-p.p-index c.p-item.result (omega arith) c.p-item.is);
}

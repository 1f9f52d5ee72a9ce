use Rattle.std.proofs.Common.{◌+◌, take, drop, arith}
use Rattle.desk_io.proofs.Growth.{Grew-more}
use Rattle.desk_io.proofs.Writing.{next_failed}
use Rattle.std.specs.List.{flat_map}
use Rattle.proof_log.specs.Writing.{chain_text}
use Rattle.proof_log.proofs.Written.{item_more, item_split}
use Rattle.proof_log.proofs.writing.write_chain.Goals as goal

pub returns-in_err-write_chain_step-clause-bytes : goal.returns-in_err-write_chain_step-clause-bytes
returns-in_err-write_chain_step-clause-bytes g c =
    next_failed _ _ _ _ _ _ _ (flat_map (chain_text c.args.vars.now) (take c.loop-step.step-index c.args.chain.now)) _ (flat_map (chain_text c.args.vars.now) (drop (c.loop-step.step-index + 1) c.args.chain.now)) _
    c.from_residual.ensures.0 c.loop-step.invariant.grew c.in_err-write_chain_step.ensures.bytes
    (item_split (chain_text c.args.vars.now) c.args.chain.now c.loop-step.step-index c.step-item.result (omega arith) c.step-item.is)

pub loop-step-preserved : goal.loop-step-preserved
loop-step-preserved g c = record {
  later = omega (arith, c.in_ok-write_chain_step.ensures.cause.later);
  grew = Grew-more _ _ _ _ _ _ _ _ _ c.loop-step.invariant.grew c.in_ok-write_chain_step.ensures.bytes
      (item_more (chain_text c.args.vars.now) c.args.chain.now c.loop-step.step-index c.step-item.result (omega arith) c.step-item.is);
}

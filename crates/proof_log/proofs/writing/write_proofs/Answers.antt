use Rattle.std.proofs.Common.{arith}
use Rattle.desk_io.proofs.Going.{wrote, stopped}
use Rattle.proof_log.specs.Own.{IsOwn}
use Rattle.proof_log.proofs.Whole.{proofs_next}
use Rattle.proof_log.proofs.Written.{all_first, all_others}
use Rattle.proof_log.proofs.writing.write_proofs.Goals as goal

pub write_proof-requires : goal.write_proof-requires
write_proof-requires g c = all_first IsOwn _ _ _ c.in-Some.ensures.cases.0 c.loop-proof.invariant.own

pub returns-in_err-write_proof-clause-bytes : goal.returns-in_err-write_proof-clause-bytes
returns-in_err-write_proof-clause-bytes g c =
    stopped _ _ _ _ _ _ _ _ _ _ _ c.from_residual.ensures.0 c.loop-proof.invariant.going
    (proofs_next c.loop-proof.number c.loop-proof.rest.now c.in-Some.others.now c.in-Some.proof.now c.in-Some.ensures.cases.0) c.in_err-write_proof.ensures.bytes

pub loop-proof-preserved : goal.loop-proof-preserved
loop-proof-preserved g c = record {
  later = omega (arith, c.in_ok-write_proof.ensures.cause.later);
  number = omega (arith, c.in-Some.ensures.cases.1, c.loop-proof.invariant.number);
  own = all_others IsOwn _ _ _ c.in-Some.ensures.cases.0 c.loop-proof.invariant.own;
  going = wrote _ _ _ _ _ _ _ _ _ _ c.loop-proof.invariant.going
      (proofs_next c.loop-proof.number c.loop-proof.rest.now c.in-Some.others.now c.in-Some.proof.now c.in-Some.ensures.cases.0) c.in_ok-write_proof.ensures.bytes;
}

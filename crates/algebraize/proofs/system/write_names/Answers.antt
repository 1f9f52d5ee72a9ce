use Rattle.std.proofs.Common.{arith}
use Rattle.desk_io.proofs.Going.{wrote, stopped, ended}
use Rattle.algebraize.proofs.Texts as lines
use Rattle.algebraize.proofs.system.write_names.Goals as goal

pub returns-in_err-write_name-clause-bytes : goal.returns-in_err-write_name-clause-bytes
returns-in_err-write_name-clause-bytes g c =
    stopped _ _ _ _ _ _ _ _ _ _ _ c.from_residual.ensures.0 c.loop-i.invariant.going (lines.names_next c.args.vars.now c.loop-i.i c.at.result (omega arith) c.at.ensures) c.in_err-write_name.ensures.bytes

pub loop-i-preserved : goal.loop-i-preserved
loop-i-preserved g c = record {
  later = omega (arith, c.in_ok-write_name.ensures.cause.later);
  going = wrote _ _ _ _ _ _ _ _ _ _ c.loop-i.invariant.going (lines.names_next c.args.vars.now c.loop-i.i c.at.result (omega arith) c.at.ensures) c.in_ok-write_name.ensures.bytes;
}

pub returns-clause-bytes : goal.returns-clause-bytes
returns-clause-bytes g c = ended _ _ _ _ _ _ c.loop-i.invariant.going (lines.names_done c.args.vars.now c.loop-i.i (omega arith))

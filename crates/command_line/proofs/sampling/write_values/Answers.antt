use Rattle.std.proofs.Common.{rules, ap, arith}
use Rattle.std.specs.Int.{w128}
use Rattle.std.specs.Int.RustNames.{FitsSigned}
use Rattle.std.proofs.lemmas.Int.{to_z-of_z}
use Rattle.desk_io.proofs.Going.{wrote, stopped}
use Rattle.command_line.specs.Samples.{values_text}
use Rattle.command_line.proofs.sampling.write_values.Goals as goal

pub returns-in_err-write_value-clause-bytes : goal.returns-in_err-write_value-clause-bytes
returns-in_err-write_value-clause-bytes g c =
    let fits : FitsSigned w128 c.in-Some.value.now = search rules in
    let bytes = simp to_z-of_z at c.in_err-write_value.ensures.bytes in
    stopped _ _ _ _ _ _ _ _ _ _ _ c.from_residual.ensures.0 c.loop-value.invariant.going (ap values_text c.in-Some.ensures.cases.0) bytes

pub loop-value-preserved : goal.loop-value-preserved
loop-value-preserved g c =
    let fits : FitsSigned w128 c.in-Some.value.now = search rules in
    let bytes = simp to_z-of_z at c.in_ok-write_value.ensures.bytes in
    record {
      later = omega (arith, c.in_ok-write_value.ensures.cause.later);
      going = wrote _ _ _ _ _ _ _ _ _ _ c.loop-value.invariant.going (ap values_text c.in-Some.ensures.cases.0) bytes;
    }

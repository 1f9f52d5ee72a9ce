use Rattle.std.proofs.Common.{arith, ◌∙◌}
use Rattle.fixed_point.specs.declared.reading.TheConstants.{CAP}
use Rattle.fixed_point.proofs.Capped.{digit-step}
use Rattle.fixed_point.proofs.reading.value_up_to_cap.Goals as goal

pub loop-rest-preserved : goal.loop-rest-preserved
loop-rest-preserved c =
    let p = digit-step c.loop-rest.value c.min-value.result CAP c.loop-rest.rest.now (omega arith) c.min-value.ensures c.loop-rest.invariant.1 in
    (p.0, p.1, p.2 ∙ c.loop-rest.invariant.2)

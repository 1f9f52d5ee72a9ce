use Rattle.std.proofs.Common.{arith}
use Rattle.std.specs.Int.{w128}
use Rattle.std.proofs.lemmas.Int.{ints, to_z-of_z}
use mir.Val.{SFits}
use Rattle.proof_log.proofs.Spelled.{multiplier_none, multiplier_reads}
use Rattle.proof_log.proofs.field.multiplier_of.Goals as goal

pub returns-in-Some-clause-reads : goal.returns-in-Some-clause-reads
returns-in-Some-clause-reads c =
    let bound = c.signed.type_inv in
    let fits : SFits w128 c.signed.result = omega (arith, ints, bound) in
    simp to_z-of_z
    (multiplier_reads c.args.text.now c.behind_minus-negative.result.1.now c.behind_minus-negative.result.0 c.in-Some.size c.signed.result c.behind_minus-negative.ensures.minus c.in-Some.ensures.reads c.signed.ensures)

pub returns-in-None-clause-refuses : goal.returns-in-None-clause-refuses
returns-in-None-clause-refuses c =
    multiplier_none c.args.text.now c.behind_minus-negative.result.1.now c.behind_minus-negative.result.0 c.behind_minus-negative.ensures.minus c.behind_minus-negative.ensures.plus c.in-None.ensures.refuses

use Rattle.std.proofs.Common.{◌∙◌, ap, arith}
use Rattle.command_line.specs.Trials.{is_other, is_proved, is_under, verdicts_of}
use Rattle.command_line.proofs.Trials.{counts-next, one-kind}
use Rattle.command_line.proofs.trial.tally_of.Goals as goal

pub loop-proof-preserved : goal.loop-proof-preserved
loop-proof-preserved c =
    let proof = c.in-Some.proof.now in
    let others = c.in-Some.others.now in
    let rest = c.in-Some.ensures.cases.0 in
    let kept = c.loop-proof.invariant in
    let told = c.counted-tally.ensures in
    let one = one-kind proof.verdict in
    let proved = ap (verdicts_of is_proved) rest ∙ counts-next is_proved proof others in
    let under = ap (verdicts_of is_under) rest ∙ counts-next is_under proof others in
    let other = ap (verdicts_of is_other) rest ∙ counts-next is_other proof others in
    record {
      proved = omega (arith, kept.proved, told.proved, proved);
      under = omega (arith, kept.under, told.under, under);
      other = omega (arith, kept.other, told.other, other);
      all = omega (arith, kept.all, told.proved, told.under, told.other, one, c.in-Some.ensures.cases.1);
    }

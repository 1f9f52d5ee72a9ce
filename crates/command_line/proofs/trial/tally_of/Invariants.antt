use Rattle.std.proofs.Common.{◌≡◌, ◌+◌, length}
use Rattle.command_line.specs.Trials.{is_other, is_proved, is_under, verdicts_of}
use Rattle.command_line.proofs.trial.tally_of.Given as goal

abbrev pub invariant-loop-proof : goal.invariant-loop-proof
invariant-loop-proof l = record {
  proved : l.tally.proved + verdicts_of is_proved l.rest ≡ verdicts_of is_proved l.fn.proofs;
  under : l.tally.under + verdicts_of is_under l.rest ≡ verdicts_of is_under l.fn.proofs;
  other : l.tally.other + verdicts_of is_other l.rest ≡ verdicts_of is_other l.fn.proofs;
  all : l.tally.proved + l.tally.under + l.tally.other + length l.rest ≡ length l.fn.proofs;
}

abbrev pub decreases-loop-proof : goal.decreases-loop-proof
decreases-loop-proof l = length l.rest

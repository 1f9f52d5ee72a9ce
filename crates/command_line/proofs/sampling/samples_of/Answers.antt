use Rattle.std.proofs.Common.{All, sym, subst}
use Rattle.prove_run.specs.Whole.{HasCounts}
use Rattle.command_line.proofs.sampling.samples_of.Goals as goal

pub find_all-requires : goal.find_all-requires
find_all-requires c = subst (All HasCounts) (sym c.as_slice.ensures) c.in_ok-log.ensures.whole.counts

use Rattle.std.proofs.Common.{length}
use Rattle.ratio_eq.proofs.term.+term.Given as goal

abbrev pub decreases-term : goal.decreases-term
decreases-term l = length l.parts.now

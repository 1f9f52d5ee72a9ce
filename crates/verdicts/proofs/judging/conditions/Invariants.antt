use Rattle.std.proofs.Common.{◌≡◌, length}
use Rattle.verdicts.specs.Verdicts.{conditions}
use Rattle.verdicts.proofs.Repeats.{added_all, conditions_from}
use Rattle.verdicts.proofs.judging.conditions.Given as goal

abbrev pub invariant-loop-piece : goal.invariant-loop-piece
invariant-loop-piece l = added_all l.found.items (conditions_from l.pieces l.rest) ≡ conditions l.pieces

abbrev pub decreases-loop-piece : goal.decreases-loop-piece
decreases-loop-piece l = length l.rest

use Rattle.std.proofs.Common.{length, ◌-◌}
use Rattle.algebraize.proofs.Changes.{AreAbove}
use Rattle.algebraize.proofs.terms.terms_above.Given as goal

abbrev pub invariant-loop-count : goal.invariant-loop-count
invariant-loop-count l = AreAbove l.exps l.terms l.count

abbrev pub decreases-loop-count : goal.decreases-loop-count
decreases-loop-count l = length l.terms - l.count

use Rattle.std.proofs.Common.{length}
use Rattle.workbench.proofs.Copying.{Copying}
use Rattle.workbench.proofs.opening.copy_all.Given as goal

abbrev pub invariant-loop-first : goal.invariant-loop-first
invariant-loop-first g l = Copying (g.S.TermStore.state l.initial.s) (g.S.TermStore.state l.s) l.copies.items l.rest l.ps

abbrev pub decreases-loop-first : goal.decreases-loop-first
decreases-loop-first g l = length l.rest

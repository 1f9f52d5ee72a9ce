use Rattle.std.proofs.Common.{◌≡◌, ◌+◌, ◌≤◌, length}
use Rattle.workbench.specs.Searches.{count_in}
use Rattle.workbench.proofs.search.count.Given as goal

abbrev pub invariant-loop-first : goal.invariant-loop-first
invariant-loop-first l = record { same : l.sum + count_in l.rest l.x ≡ count_in l.hs l.x; few : l.sum + length l.rest ≤ length l.hs }

abbrev pub decreases-loop-first : goal.decreases-loop-first
decreases-loop-first l = length l.rest

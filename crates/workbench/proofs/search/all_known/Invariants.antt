use Rattle.std.proofs.Common.{◌≡◌, length}
use Rattle.workbench.specs.Searches.{all_known_in}
use Rattle.workbench.proofs.search.all_known.Given as goal

abbrev pub invariant-loop-first : goal.invariant-loop-first
invariant-loop-first l = all_known_in l.rest l.x ≡ all_known_in l.hs l.x

abbrev pub decreases-loop-first : goal.decreases-loop-first
decreases-loop-first l = length l.rest

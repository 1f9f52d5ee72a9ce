use Rattle.std.proofs.Common.{◌≡◌, length}
use Rattle.workbench.specs.Searches.{none_less_in}
use Rattle.workbench.proofs.search.none_less.Given as goal

abbrev pub invariant-loop-first : goal.invariant-loop-first
invariant-loop-first l = none_less_in l.rest l.x l.h ≡ none_less_in l.hs l.x l.h

abbrev pub decreases-loop-first : goal.decreases-loop-first
decreases-loop-first l = length l.rest

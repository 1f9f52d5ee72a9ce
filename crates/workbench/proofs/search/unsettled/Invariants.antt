use Rattle.std.proofs.Common.{◌≡◌, length, max}
use Rattle.workbench.specs.Searches.{greatest_in, open_class}
use Rattle.workbench.proofs.search.unsettled.Given as goal

abbrev pub invariant-loop-first : goal.invariant-loop-first
invariant-loop-first l = max l.greatest (greatest_in (open_class l.hs) l.rest) ≡ greatest_in (open_class l.hs) l.hs

abbrev pub decreases-loop-first : goal.decreases-loop-first
decreases-loop-first l = length l.rest

use Rattle.std.proofs.Common.{◌≡◌, ◌++◌, length, map}
use Rattle.workbench.specs.Standing.{poly_of}
use Rattle.wang_split.proofs.concluding.polys.Given as goal

abbrev pub invariant-loop-first : goal.invariant-loop-first
invariant-loop-first l = l.ps.items ++ map poly_of l.rest ≡ map poly_of l.hs

abbrev pub decreases-loop-first : goal.decreases-loop-first
decreases-loop-first l = length l.rest

use Rattle.std.proofs.Common.{◌≡◌, length, ◌&&◌, not}
use Rattle.std.specs.Prelude.{◌==◌}
use Rattle.std.specs.List.{list_all}
use Rattle.workbench.specs.Searches.{settled_in, triangular_in}
use Rattle.workbench.specs.declared.bench.Held.{Held}
use Rattle.workbench.proofs.search.is_triangular.Given as goal

abbrev pub invariant-loop-first : goal.invariant-loop-first
invariant-loop-first l = list_all (λ (h : Held). not (h.class == 0) && settled_in l.hs h.class) l.rest ≡ triangular_in l.hs

abbrev pub decreases-loop-first : goal.decreases-loop-first
decreases-loop-first l = length l.rest

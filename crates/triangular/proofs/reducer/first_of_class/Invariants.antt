use Rattle.std.proofs.Common.{◌≡◌, ◌+◌, length}
use Rattle.std.specs.Prelude.{◌==◌}
use Rattle.workbench.specs.Searches.{place_of}
use Rattle.triangular.proofs.reducer.first_of_class.Given as goal

abbrev pub invariant-loop-first : goal.invariant-loop-first
invariant-loop-first l = record { found : place_of (λ k h. h.class == l.x) l.k l.rest ≡ place_of (λ k h. h.class == l.x) 1 l.hs; count : l.k + length l.rest ≡ 1 + length l.hs }

abbrev pub decreases-loop-first : goal.decreases-loop-first
decreases-loop-first l = length l.rest

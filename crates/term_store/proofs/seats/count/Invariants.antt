use Rattle.std.proofs.Common.{◌≡◌, ◌+◌, length}
use Rattle.term_store.specs.Runs.{units}
use Rattle.term_store.proofs.seats.count.Given as goal

abbrev pub invariant-loop-place : goal.invariant-loop-place
invariant-loop-place l = l.sum + units l.rest ≡ units l.fn.places

abbrev pub decreases-loop-place : goal.decreases-loop-place
decreases-loop-place l = length l.rest

use Rattle.std.proofs.Common.{length, ◌-◌, ◌≤◌, take, IsTrue}
use Rattle.std.specs.List.{list_all}
use Rattle.term_store.specs.Runs.{is_used}
use Rattle.term_store.proofs.space.free_place.Given as goal

abbrev pub invariant-loop-i : goal.invariant-loop-i
invariant-loop-i l = record { within : l.i ≤ length l.places; used : IsTrue (list_all is_used (take l.i l.places)) }

abbrev pub decreases-loop-i : goal.decreases-loop-i
decreases-loop-i l = length l.places - l.i

-- What a thread that works alone finds in its book before a turn.
use Rattle.std.specs.Prelude.{◌≡◌, ◌<◌, List, [], Bool, false, Some}
use Rattle.proof_steps.specs.declared.piece.Piece.{Piece}
use Rattle.branch_core.specs.declared.event.Event.{Event}
use Rattle.branch_core.specs.Machine.{replay, state_is}
use Rattle.branch_core.specs.Runs.{times}

-- The path waits, nothing is held, and the book is not stopped.
abbrev pub MayTurn : List (Event Piece) → List Bool → Type 0
MayTurn history path =
    (waiting : List (List Bool))
    × (done : List (List Bool × Piece))
    × (replay history ≡ Some (state_is waiting [] done false))
    × (0 < times waiting path)

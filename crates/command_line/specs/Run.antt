-- What a run leaves, against the answer that is due.
use Rattle.std.specs.Prelude.{◌≡◌, ℕ, ◌⊎◌, List, [], Option, Some}
use Rattle.std.specs.Io.KnownBytes.{append_known}
use Rattle.desk_io.specs.Files.{Files}
use Rattle.desk_io.specs.Bytes.{GrewByFront}
use Rattle.command_line.specs.Answer.{Answer, read_fault}
use Rattle.command_line.specs.Readings.{Reading, readings_of}
use Rattle.command_line.specs.declared.status.Status.{Status}
use Rattle.command_line.specs.declared.status.Status.TheVariants.{Done, Unproved, WriteFault, OutOfMemory}

-- Only an answer that is done, or done and not proved, has bytes on out.
abbrev pub IsSilent : Answer → Type 0
IsSilent answer = (answer.status ≡ Done → ⊥) → (answer.status ≡ Unproved → ⊥) → answer.out ≡ []

-- The status is the answer's, and its bytes stand on both sinks.
pub record Whole (answer : Answer) (out_old out_new notes_old notes_new : Option (List ℕ)) (status : Status) : Type 0 where
  pub status_is : status ≡ answer.status
  pub out : out_new ≡ append_known out_old answer.out
  pub notes : notes_new ≡ append_known notes_old answer.notes

-- A put failed: fronts of the answer's bytes stand on both sinks, and on notes only behind all of out's.
pub record CutOff (answer : Answer) (out_old out_new notes_old notes_new : Option (List ℕ)) (status : Status) : Type 0 where
  pub status_is : status ≡ WriteFault
  pub out : GrewByFront out_old out_new answer.out
  pub notes : GrewByFront notes_old notes_new answer.notes
  pub order : (out_new ≡ append_known out_old answer.out) ⊎ (notes_new ≡ notes_old)

-- Memory ran out, before anything was put.
pub record Nothing (out_old out_new notes_old notes_new : Option (List ℕ)) (status : Status) : Type 0 where
  pub status_is : status ≡ OutOfMemory
  pub out : out_new ≡ out_old
  pub notes : notes_new ≡ notes_old

-- The ends of a run whose answer is due.
abbrev pub Ends : Answer → Option (List ℕ) → Option (List ℕ) → Option (List ℕ) → Option (List ℕ) → Status → Type 0
Ends answer out_old out_new notes_old notes_new status =
    Whole answer out_old out_new notes_old notes_new status
    ⊎ CutOff answer out_old out_new notes_old notes_new status
    ⊎ Nothing out_old out_new notes_old notes_new status

-- The answer that is due. Of every desk it is the answer of some readings, one of each name. Where the desk tells its files
-- it is theirs, or, where its faults rose, it may be the read fault. It has bytes on out only where it is done, and its
-- status is not that of a put that failed.
pub record Due (held : Option Files) (rose : Type 0) (names : List (List ℕ)) (Of : List Reading → Answer → Type 0) (answer : Answer) : Type 0 where
  pub silent : IsSilent answer
  pub proper : answer.status ≡ WriteFault → ⊥
  pub readings : List Reading
  pub read : Of readings answer
  pub told : (files : Files) → held ≡ Some files → Of (readings_of files names) answer ⊎ (rose × (answer ≡ read_fault))

-- An answer that is due, and what is left of it on the sinks.
pub record Given (held : Option Files) (rose : Type 0) (names : List (List ℕ)) (Of : List Reading → Answer → Type 0)
    (out_old out_new notes_old notes_new : Option (List ℕ)) (status : Status) : Type 0 where
  pub answer : Answer
  pub due : Due held rose names Of answer
  pub ends : Whole answer out_old out_new notes_old notes_new status ⊎ CutOff answer out_old out_new notes_old notes_new status

-- What a call answers: an answer that is due, or nothing, where memory ran out.
abbrev pub Answers : Option Files → Type 0 → List (List ℕ) → (List Reading → Answer → Type 0)
    → (out_old out_new notes_old notes_new : Option (List ℕ)) → Status → Type 0
Answers held rose names Of out_old out_new notes_old notes_new status =
    Given held rose names Of out_old out_new notes_old notes_new status ⊎ Nothing out_old out_new notes_old notes_new status

-- One of these answers, and what is left of it; or nothing, where memory ran out.
abbrev pub GivesOne : (Answer → Type 0) → (out_old out_new notes_old notes_new : Option (List ℕ)) → Status → Type 0
GivesOne Is out_old out_new notes_old notes_new status =
    ((a : Answer) × Is a × (Whole a out_old out_new notes_old notes_new status ⊎ CutOff a out_old out_new notes_old notes_new status))
    ⊎ Nothing out_old out_new notes_old notes_new status

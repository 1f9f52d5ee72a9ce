-- What follows from the answer that is due.
use Rattle.std.proofs.Common.{◌≡◌, ◌⊎◌, List, ℕ, Option, Some, inl, inr, ◌∙◌, ap}
use Rattle.desk_io.specs.Files.{Files}
use Rattle.command_line.specs.Answer.{Answer, read_fault}
use Rattle.command_line.specs.Readings.{Reading, readings_of}
use Rattle.command_line.specs.Run.{Whole, CutOff, Given, Answers}
use Rattle.command_line.specs.Contract.{IsFault}
use Rattle.command_line.specs.declared.status.Status.{Status}
use Rattle.command_line.proofs.Causes.{SomeAnswer}

decided_whole : (rose : Type 0) (Of : Answer → Type 0) (answer : Answer) (status : Status) → Of answer ⊎ (rose × (answer ≡ read_fault)) → status ≡ answer.status
    → SomeAnswer Of (λ a. status ≡ a.status) ⊎ IsFault status
decided_whole rose Of answer status (inl of) s = inl (answer, of, s)
decided_whole rose Of answer status (inr r) s = inr (inl (s ∙ ap (λ (a : Answer). a.status) r.1))

decided_by : (files : Files) (held : Option Files) (rose : Type 0) (names : List (List ℕ)) (Of : List Reading → Answer → Type 0) (out_old out_new notes_old notes_new : Option (List ℕ)) (status : Status)
    → held ≡ Some files → (g : Given held rose names Of out_old out_new notes_old notes_new status)
    → Whole g.answer out_old out_new notes_old notes_new status ⊎ CutOff g.answer out_old out_new notes_old notes_new status
    → SomeAnswer (Of (readings_of files names)) (λ a. status ≡ a.status) ⊎ IsFault status
decided_by files held rose names Of out_old out_new notes_old notes_new status e g (inl w) = decided_whole rose (Of (readings_of files names)) g.answer status (g.due.told files e) w.status_is
decided_by files held rose names Of out_old out_new notes_old notes_new status e g (inr x) = inr (inr (inl x.status_is))

-- Where the desk tells its files, the status is that of the answer over them, or a fault.
pub decided : (held : Option Files) (rose : Type 0) (names : List (List ℕ)) (Of : List Reading → Answer → Type 0) (out_old out_new notes_old notes_new : Option (List ℕ)) (status : Status)
    → Answers held rose names Of out_old out_new notes_old notes_new status
    → (files : Files) → held ≡ Some files → SomeAnswer (Of (readings_of files names)) (λ a. status ≡ a.status) ⊎ IsFault status
decided held rose names Of out_old out_new notes_old notes_new status (inl g) files e =
    decided_by files held rose names Of out_old out_new notes_old notes_new status e g g.ends
decided held rose names Of out_old out_new notes_old notes_new status (inr n) files e = inr (inr (inr n.status_is))

-- What the answer that is due says of a whole run, and of one that was cut off.
use Rattle.std.proofs.Common.{◌≡◌, ◌⊎◌, List, ℕ, Option, Some, inl, inr, sym, ◌∙◌, subst}
use Rattle.desk_io.specs.Files.{Files}
use Rattle.command_line.specs.Answer.{Answer, read_fault}
use Rattle.command_line.specs.Readings.{Reading, readings_of}
use Rattle.command_line.specs.Run.{Whole, CutOff, Nothing, Given, Answers}
use Rattle.command_line.specs.declared.status.Status.{Status}
use Rattle.command_line.specs.declared.status.Status.TheVariants.{WriteFault, OutOfMemory}

-- An answer over files that has a property.
abbrev pub SomeAnswer : (Answer → Type 0) → (Answer → Type 0) → Type 0
SomeAnswer Of P = (a : Answer) × Of a × P a

whole_by : (rose : Type 0) (Of P : Answer → Type 0) (answer : Answer) → Of answer ⊎ (rose × (answer ≡ read_fault)) → (rose → ⊥) → P answer → SomeAnswer Of P
whole_by rose Of P answer (inl of) quiet p = (answer, of, p)
whole_by rose Of P answer (inr r) quiet p = absurd (quiet r.0)

complete_by : (files : Files) (held : Option Files) (rose : Type 0) (names : List (List ℕ)) (Of : List Reading → Answer → Type 0) (out_old out_new notes_old notes_new : Option (List ℕ)) (status : Status)
    → held ≡ Some files → (rose → ⊥) → (status ≡ WriteFault → ⊥) → (g : Given held rose names Of out_old out_new notes_old notes_new status)
    → Whole g.answer out_old out_new notes_old notes_new status ⊎ CutOff g.answer out_old out_new notes_old notes_new status
    → SomeAnswer (Of (readings_of files names)) (λ a. Whole a out_old out_new notes_old notes_new status)
complete_by files held rose names Of out_old out_new notes_old notes_new status e quiet put g (inl w) =
    whole_by rose (Of (readings_of files names)) (λ a. Whole a out_old out_new notes_old notes_new status) g.answer (g.due.told files e) quiet w
complete_by files held rose names Of out_old out_new notes_old notes_new status e quiet put g (inr x) = absurd (put x.status_is)

-- Where the desk tells its files and no fault rose, the answer is theirs, or memory ran out.
pub complete : (held : Option Files) (files : Files) (rose : Type 0) (names : List (List ℕ)) (Of : List Reading → Answer → Type 0) (out_old out_new notes_old notes_new : Option (List ℕ)) (status : Status)
    → held ≡ Some files → Answers held rose names Of out_old out_new notes_old notes_new status → (rose → ⊥) → (status ≡ WriteFault → ⊥)
    → SomeAnswer (Of (readings_of files names)) (λ a. Whole a out_old out_new notes_old notes_new status) ⊎ Nothing out_old out_new notes_old notes_new status
complete held files rose names Of out_old out_new notes_old notes_new status e (inl g) quiet put =
    inl (complete_by files held rose names Of out_old out_new notes_old notes_new status e quiet put g g.ends)
complete held files rose names Of out_old out_new notes_old notes_new status e (inr n) quiet put = inr n

memory_apart : OutOfMemory ≡ WriteFault → ⊥
memory_apart e = cc

cut_off_by : (rose : Type 0) (Of P : Answer → Type 0) (answer : Answer) → Of answer ⊎ (rose × (answer ≡ read_fault)) → P answer → SomeAnswer Of P ⊎ (rose × P read_fault)
cut_off_by rose Of P answer (inl of) p = inl (answer, of, p)
cut_off_by rose Of P answer (inr r) p = inr (r.0, subst P r.1 p)

cut_off_ends : (files : Files) (held : Option Files) (rose : Type 0) (names : List (List ℕ)) (Of : List Reading → Answer → Type 0) (out_old out_new notes_old notes_new : Option (List ℕ)) (status : Status)
    → held ≡ Some files → status ≡ WriteFault → (g : Given held rose names Of out_old out_new notes_old notes_new status)
    → Whole g.answer out_old out_new notes_old notes_new status ⊎ CutOff g.answer out_old out_new notes_old notes_new status
    → SomeAnswer (Of (readings_of files names)) (λ a. CutOff a out_old out_new notes_old notes_new status) ⊎ (rose × CutOff read_fault out_old out_new notes_old notes_new status)
cut_off_ends files held rose names Of out_old out_new notes_old notes_new status e put g (inl w) = absurd (g.due.proper (sym w.status_is ∙ put))
cut_off_ends files held rose names Of out_old out_new notes_old notes_new status e put g (inr x) =
    cut_off_by rose (Of (readings_of files names)) (λ a. CutOff a out_old out_new notes_old notes_new status) g.answer (g.due.told files e) x

-- Where a put failed, fronts of the due answer stand.
pub cut_off : (held : Option Files) (rose : Type 0) (names : List (List ℕ)) (Of : List Reading → Answer → Type 0) (out_old out_new notes_old notes_new : Option (List ℕ)) (status : Status)
    → Answers held rose names Of out_old out_new notes_old notes_new status
    → (files : Files) → held ≡ Some files → status ≡ WriteFault
    → SomeAnswer (Of (readings_of files names)) (λ a. CutOff a out_old out_new notes_old notes_new status) ⊎ (rose × CutOff read_fault out_old out_new notes_old notes_new status)
cut_off held rose names Of out_old out_new notes_old notes_new status (inl g) files e put =
    cut_off_ends files held rose names Of out_old out_new notes_old notes_new status e put g g.ends
cut_off held rose names Of out_old out_new notes_old notes_new status (inr n) files e put = absurd (memory_apart (sym n.status_is ∙ put))

-- What each call of the program promises: how it ends, by what it was asked, and what it leaves of the desk and the sinks
-- that it is lent.
use Rattle.std.specs.Prelude.{◌≡◌, ℕ, ◌≤◌, ◌⊎◌, List, [], ◌∷◌, Option, Some, None}
use Rattle.desk_io.specs.Causes.{Rose}
use Rattle.desk_io.specs.Files.{Files, Lacks}
use Rattle.command_line.specs.Answer.{Answer, read_fault}
use Rattle.command_line.specs.Table.{Form, IsAnswer, IsAnswerOf, names_of}
use Rattle.command_line.specs.Run.{Answers, Whole, CutOff, Nothing}
use Rattle.command_line.specs.declared.status.Status.{Status}
use Rattle.command_line.specs.declared.status.Status.TheVariants.{Done, Unproved, Rejected, Usage, Refused, ReadFault, WriteFault, OutOfMemory}

-- The desk and the sinks of a call, at one moment.
pub record Lent (K S N : Type 0) : Type 0 where
  pub desk : K
  pub out : S
  pub notes : N

abbrev pub lent : {K S N : Type 0} → K → S → N → Lent K S N
lent k s n = record { desk = k; out = s; notes = n }

-- How a desk and two sinks are seen: the files that the desk holds, the bytes that were written, and the counts of faults.
pub record Views (K S N : Type 0) : Type 0 where
  pub held : K → Option Files
  pub desk_faults : K → ℕ
  pub written : S → Option (List ℕ)
  pub out_faults : S → ℕ
  pub said : N → Option (List ℕ)
  pub notes_faults : N → ℕ

abbrev pub views : {K S N : Type 0} → (K → Option Files) → (K → ℕ) → (S → Option (List ℕ)) → (S → ℕ) → (N → Option (List ℕ)) → (N → ℕ) → Views K S N
views held desk written out said notes = record {
  held = held;
  desk_faults = desk;
  written = written;
  out_faults = out;
  said = said;
  notes_faults = notes;
}

-- The faults of the desk, of out and of notes rose between two moments.
abbrev pub DeskRose : {K S N : Type 0} → Views K S N → Lent K S N → Lent K S N → Type 0
DeskRose v old new = Rose (v.desk_faults old.desk) (v.desk_faults new.desk)

abbrev pub OutRose : {K S N : Type 0} → Views K S N → Lent K S N → Lent K S N → Type 0
OutRose v old new = Rose (v.out_faults old.out) (v.out_faults new.out)

abbrev pub NotesRose : {K S N : Type 0} → Views K S N → Lent K S N → Lent K S N → Type 0
NotesRose v old new = Rose (v.notes_faults old.notes) (v.notes_faults new.notes)

-- One of the statuses that have causes of their own.
abbrev pub IsFault : Status → Type 0
IsFault status = (status ≡ ReadFault) ⊎ (status ≡ WriteFault) ⊎ (status ≡ OutOfMemory)

-- A status that is neither a text's nor that of a failed put.
abbrev pub IsQuiet : Status → Type 0
IsQuiet status = (status ≡ Done → ⊥) × (status ≡ Unproved → ⊥) × (status ≡ WriteFault → ⊥)

-- The desk tells what it holds, and lacks one of these names.
abbrev pub LacksOne : Option Files → List (List ℕ) → Type 0
LacksOne held [] = ⊥
LacksOne held (name ∷ names) = Lacks held name ⊎ LacksOne held names

-- What a call promises that was asked for a form of the command line, or whose words are none.
pub record IsRun {K S N : Type 0} (v : Views K S N) (old new : Lent K S N) (form : Option Form) (status : Status) : Type 0 where
  -- The bytes and the status are those of the answer that is due, which is an answer over what was read of each file, once;
  -- or a put failed, and fronts of them stand; or memory ran out before the first put.
  pub answered : Answers (v.held old.desk) (DeskRose v old new) (names_of form) (IsAnswerOf form)
      (v.written old.out) (v.written new.out) (v.said old.notes) (v.said new.notes) status
  -- Where the desk tells its files, the status is that of the answer over them, or a fault.
  pub decided : (files : Files) → v.held old.desk ≡ Some files
      → ((a : Answer) × IsAnswer form files a × (status ≡ a.status)) ⊎ IsFault status
  -- Where the desk tells its files and no fault rose, the answer over them is given whole, or memory ran out.
  pub complete : (files : Files) → v.held old.desk ≡ Some files → (DeskRose v old new → ⊥) → (OutRose v old new → ⊥) → (NotesRose v old new → ⊥)
      → ((a : Answer) × IsAnswer form files a × Whole a (v.written old.out) (v.written new.out) (v.said old.notes) (v.said new.notes) status)
      ⊎ Nothing (v.written old.out) (v.written new.out) (v.said old.notes) (v.said new.notes) status
  -- Where the desk tells its files and a put failed, fronts of the answer's bytes stand on both sinks, and on notes only
  -- behind all of out's. Where the desk's faults rose, it may be the read fault that was cut off.
  pub cut_off : (files : Files) → v.held old.desk ≡ Some files → status ≡ WriteFault
      → ((a : Answer) × IsAnswer form files a × CutOff a (v.written old.out) (v.written new.out) (v.said old.notes) (v.said new.notes) status)
      ⊎ (DeskRose v old new × CutOff read_fault (v.written old.out) (v.written new.out) (v.said old.notes) (v.said new.notes) status)
  -- Wrong usage comes exactly where the words are no form, of whatever desk; then neither the desk nor out is touched.
  pub usage : status ≡ Usage → form ≡ None
  pub usage_then : form ≡ None → (status ≡ Usage) ⊎ (status ≡ WriteFault)
  pub idle : form ≡ None → (new.desk ≡ old.desk) × (new.out ≡ old.out)
  -- A file cannot be read only where the desk's faults rose, or where it tells that it lacks a file of the form.
  pub read_fault : status ≡ ReadFault → DeskRose v old new ⊎ LacksOne (v.held old.desk) (names_of form)
  -- A put failed only where the faults of a sink rose.
  pub write_fault : status ≡ WriteFault → OutRose v old new ⊎ NotesRose v old new
  -- What is left where nothing was due on a sink, or memory ran out.
  pub untouched : IsQuiet status → new.out ≡ old.out
  pub unsaid : status ≡ OutOfMemory → new.notes ≡ old.notes
  -- The desk holds what it held, and no count falls.
  pub same : v.held new.desk ≡ v.held old.desk
  pub later : (v.desk_faults old.desk ≤ v.desk_faults new.desk) × (v.out_faults old.out ≤ v.out_faults new.out)
      × (v.notes_faults old.notes ≤ v.notes_faults new.notes)

-- What a call promises besides that makes a text of one file: it asks for no proof and reads no log, it puts to one sink
-- at most, and says nothing where the text is done.
pub record IsTextRun {K S N : Type 0} (old new : Lent K S N) (status : Status) : Type 0 where
  pub of_text : (status ≡ Usage → ⊥) × (status ≡ Unproved → ⊥) × (status ≡ Rejected → ⊥)
  pub one_sink : (new.out ≡ old.out) ⊎ (new.notes ≡ old.notes)
  pub unsaid : status ≡ Done → new.notes ≡ old.notes

-- What a call promises besides that proves the statements of a file.
abbrev pub IsProofRun : Status → Type 0
IsProofRun status = (status ≡ Usage → ⊥) × (status ≡ Rejected → ⊥)

-- What a call promises besides that tries a number: no file is refused and no verdict tells, the desk is not touched, and
-- nothing is said.
pub record IsTrialRun {K S N : Type 0} (old new : Lent K S N) (status : Status) : Type 0 where
  pub of_trial : (status ≡ Done) ⊎ (status ≡ WriteFault) ⊎ (status ≡ OutOfMemory)
  pub idle : new.desk ≡ old.desk
  pub unsaid : new.notes ≡ old.notes

-- What a call promises besides that carries a figure: it proves nothing, and says nothing where its text is done.
pub record IsCarryRun {K S N : Type 0} (old new : Lent K S N) (status : Status) : Type 0 where
  pub of_carry : (status ≡ Usage → ⊥) × (status ≡ Unproved → ⊥)
  pub unsaid : status ≡ Done → new.notes ≡ old.notes

-- What a call promises besides that checks a log: it proves nothing, and refuses no file where none is named.
abbrev pub IsCheckRun : (file : Option (List ℕ)) → Status → Type 0
IsCheckRun file status = (status ≡ Usage → ⊥) × (status ≡ Unproved → ⊥) × (file ≡ None → status ≡ Refused → ⊥)

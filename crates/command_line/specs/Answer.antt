-- What the program answers: a status, and the bytes on each sink.
use Rattle.std.specs.Prelude.{ℕ, List, [], Result, Ok, Err, codes}
use Rattle.gcl_reader.specs.declared.refusal.Refusal.{Refusal}
use Rattle.command_line.specs.Note.{refusal_line}
use Rattle.command_line.specs.declared.status.Status.{Status}
use Rattle.command_line.specs.declared.status.Status.TheVariants.{Done, Usage, Refused, ReadFault, TooLarge}

pub record Answer : Type 0 where
  pub status : Status
  pub out : List ℕ
  pub notes : List ℕ

-- Nothing on out, and a line on notes.
abbrev pub only_notes : Status → List ℕ → Answer
only_notes status line = record { status = status; out = []; notes = line }

abbrev pub usage_line : List ℕ
usage_line = codes "usage: gclc svg FILE, latex FILE, system FILE, show FILE, prove FILE [--workers N], check LOG [FILE], trial NUMBER WORKERS, sample FILE, carry LOG FILE FIGURE\n"

abbrev pub usage : Answer
usage = only_notes Usage usage_line

abbrev pub read_fault : Answer
read_fault = only_notes ReadFault (codes "read fault\n")

abbrev pub too_large : Answer
too_large = only_notes TooLarge (codes "too large\n")

-- A text that is written whole.
abbrev pub text_answer : List ℕ → Answer
text_answer text = record { status = Done; out = text; notes = [] }

-- The file is refused.
abbrev pub refused : List ℕ → Refusal → Answer
refused bytes refusal = only_notes Refused (refusal_line bytes refusal)

-- The answer of what is made of a file, or that the file is refused.
abbrev pub answer_from : {A : Type 0} → (A → Answer) → List ℕ → Result A Refusal → Answer
answer_from answer bytes (Ok made) = answer made
answer_from answer bytes (Err refusal) = refused bytes refusal

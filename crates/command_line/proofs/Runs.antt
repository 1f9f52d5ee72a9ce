-- What a call promises that was asked for a form, from what it answers.
use Rattle.std.proofs.Common.{◌≡◌, ◌≤◌, ◌⊎◌, Some, inl, inr}
use Rattle.command_line.specs.Table.{Form, IsAnswerOf, names_of}
use Rattle.command_line.specs.Contract.{Lent, Views, DeskRose, OutRose, NotesRose, IsQuiet, LacksOne, IsRun}
use Rattle.command_line.specs.Run.{Answers}
use Rattle.command_line.specs.declared.status.Status.{Status}
use Rattle.command_line.specs.declared.status.Status.TheVariants.{Usage, ReadFault, WriteFault, OutOfMemory}
use Rattle.command_line.proofs.Causes.{complete, cut_off}
use Rattle.command_line.proofs.Decided.{decided}

pub run_of : {K S N : Type 0} (v : Views K S N) (old new : Lent K S N) (form : Form) (status : Status)
    → Answers (v.held old.desk) (DeskRose v old new) (names_of (Some form)) (IsAnswerOf (Some form)) (v.written old.out) (v.written new.out) (v.said old.notes) (v.said new.notes) status
    → (status ≡ Usage → ⊥)
    → (status ≡ ReadFault → DeskRose v old new ⊎ LacksOne (v.held old.desk) (names_of (Some form)))
    → (status ≡ WriteFault → OutRose v old new ⊎ NotesRose v old new)
    → (IsQuiet status → new.out ≡ old.out) → (status ≡ OutOfMemory → new.notes ≡ old.notes) → v.held new.desk ≡ v.held old.desk
    → (v.desk_faults old.desk ≤ v.desk_faults new.desk) × (v.out_faults old.out ≤ v.out_faults new.out) × (v.notes_faults old.notes ≤ v.notes_faults new.notes)
    → IsRun v old new (Some form) status
run_of v old new form status answered never read_fault write_fault untouched unsaid same later = record {
  answered = answered;
  decided = decided (v.held old.desk) (DeskRose v old new) (names_of (Some form)) (IsAnswerOf (Some form)) _ _ _ _ status answered;
  complete = λ files told desk_quiet out_quiet notes_quiet.
      complete (v.held old.desk) files (DeskRose v old new) (names_of (Some form)) (IsAnswerOf (Some form)) _ _ _ _ status told answered desk_quiet
      (λ put. elim (write_fault put) [ inl o ↦ out_quiet o | inr n ↦ notes_quiet n ]);
  cut_off = λ files told put. cut_off (v.held old.desk) (DeskRose v old new) (names_of (Some form)) (IsAnswerOf (Some form)) _ _ _ _ status answered files told put;
  usage = λ e. absurd (never e);
  usage_then = λ e. absurd (cc);
  idle = λ e. absurd (cc);
  read_fault = read_fault;
  write_fault = write_fault;
  untouched = untouched;
  unsaid = unsaid;
  same = same;
  later = later;
}

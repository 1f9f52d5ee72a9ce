-- What a run that is done has shown, in a domain, of the files that it read; and that what `prove` writes, `check` assures.
use Rattle.std.specs.Prelude.{◌≡◌, ◌⊎◌, ℕ, List, [], ◌∷◌, ◌++◌, Option, Some, None, Ok, codes}
use Rattle.std.specs.Io.KnownBytes.{append_known}
use Rattle.poly_model.specs.Domain.{Operations}
use Rattle.desk_io.specs.Files.{Files, file_of}
use Rattle.log_checker.specs.Checked.{AreOf}
use Rattle.proof_log.specs.declared.log.Proof.{Proof}
use Rattle.command_line.specs.Answer.{Answer, text_answer}
use Rattle.command_line.specs.Assured.{IsAssuredLog}
use Rattle.command_line.specs.Carrying.{CarriesOf, carried_text}
use Rattle.command_line.specs.Checking.{assured_text}
use Rattle.command_line.specs.Figures.{IsAssuredOf}
use Rattle.command_line.specs.Proving.{proofs_of, log_text}
use Rattle.command_line.specs.Table.{Form, TextOf, ProveOf, CheckOf, CarryOf, TrialOf, IsAnswer, IsAnswerOf}
use Rattle.command_line.specs.VerdictLines.{problems_in, verdicts_in}
use Rattle.command_line.specs.declared.status.Status.{Status}
use Rattle.command_line.specs.declared.status.Status.TheVariants.{Done, Unproved}

-- The verdicts of the proofs, and that they are assured.
abbrev pub assured_lines : List Proof → List ℕ
assured_lines proofs = assured_text (problems_in proofs) (verdicts_in proofs)

-- The file has a log, which is assured, and whose verdicts hold of the file's figures. `check` assures it and tells its
-- verdicts, by itself and against the file.
pub record ProvesOf {M : Type 0} (o : Operations M) (source : List ℕ) : Type 0 where
  pub proofs : List Proof
  pub made : proofs_of source ≡ Ok proofs
  pub assured : IsAssuredOf o (log_text proofs) source
  pub checks : (log : List ℕ) → IsAnswerOf (Some (CheckOf log None)) (Some (log_text proofs) ∷ []) (text_answer (assured_lines proofs))
  pub compares : (log file : List ℕ)
      → IsAnswerOf (Some (CheckOf log (Some file))) (Some (log_text proofs) ∷ Some source ∷ []) (text_answer (assured_lines proofs))

-- ---- what is shown, of every desk
-- What was read of the file has a log, which stands on out. Where the desk tells its files, it is the file that was read.
pub record ShowsProofs {M : Type 0} (o : Operations M) (held : Option Files) (file : List ℕ) (out_old out_new : Option (List ℕ)) : Type 0 where
  pub source : List ℕ
  pub own : AreOf held file source
  pub shown : ProvesOf o source
  pub text : out_new ≡ append_known out_old (log_text shown.proofs)

-- What was read of the log is assured, and its verdicts stand on out.
pub record ShowsLog {M : Type 0} (o : Operations M) (held : Option Files) (log : List ℕ) (out_old out_new : Option (List ℕ)) : Type 0 where
  pub bytes : List ℕ
  pub own : AreOf held log bytes
  pub shown : IsAssuredLog o bytes
  pub text : out_new ≡ append_known out_old (assured_lines shown.proofs)

-- So it is, and its verdicts hold of the figures of the file that was read behind it.
pub record ShowsFigures {M : Type 0} (o : Operations M) (held : Option Files) (log file : List ℕ) (out_old out_new : Option (List ℕ)) : Type 0 where
  pub bytes : List ℕ
  pub source : List ℕ
  pub own : AreOf held log bytes
  pub file_own : AreOf held file source
  pub shown : IsAssuredOf o bytes source
  pub text : out_new ≡ append_known out_old (assured_lines shown.assured.proofs)

-- What was read of a figure meets what the text on out says holds of it, by what was read of a log and of a file.
pub record ShowsCarried (held : Option Files) (log file figure : List ℕ) (out_old out_new : Option (List ℕ)) : Type 0 where
  pub bytes : List ℕ
  pub source : List ℕ
  pub drawn : List ℕ
  pub own : AreOf held log bytes
  pub file_own : AreOf held file source
  pub figure_own : AreOf held figure drawn
  pub shown : CarriesOf bytes source drawn
  pub text : out_new ≡ append_known out_old
      (carried_text shown.program.acts shown.places (problems_in shown.assured.proofs) (verdicts_in shown.assured.proofs))

-- The text was written whole, though some statement of it may not be proved.
abbrev pub IsWritten : Status → Type 0
IsWritten status = (status ≡ Done) ⊎ (status ≡ Unproved)

-- Where a log was written of a file, it is that of the bytes that were read, once; it is assured, its verdicts hold of the
-- file's figures, and `check` assures it. Where the check of a log is done, the bytes that were read, once, are an assured
-- log, and out has its verdicts; and where it is done against a file, the verdicts hold of that file's figures. Where a
-- figure was carried, it meets what the text says holds of it. Where the desk tells its files, these are the bytes that it
-- holds.
abbrev pub Headline : {M : Type 0} → Operations M → Option Form → Option Files → (out_old out_new : Option (List ℕ)) → Status → Type 0
Headline o None held out_old out_new status = Unit {0}
Headline o (Some (TextOf command file)) held out_old out_new status = Unit {0}
Headline o (Some (ProveOf file)) held out_old out_new status = IsWritten status → ShowsProofs o held file out_old out_new
Headline o (Some (CheckOf log None)) held out_old out_new status = status ≡ Done → ShowsLog o held log out_old out_new
Headline o (Some (CheckOf log (Some file))) held out_old out_new status = status ≡ Done → ShowsFigures o held log file out_old out_new
Headline o (Some (CarryOf log file figure)) held out_old out_new status = status ≡ Done → ShowsCarried held log file figure out_old out_new
Headline o (Some (TrialOf number)) held out_old out_new status = Unit {0}

-- ---- over the files of a desk
-- The answer that tells these verdicts, and that they are assured.
abbrev pub assured_so : List ℕ → Answer
assured_so verdicts = text_answer (verdicts ++ codes "assured\n")

-- The log that `prove` writes of a file, `check` assures, by itself and against the file, and tells the verdicts that
-- `prove` told.
abbrev pub ProvedIsAssured : Type 0
ProvedIsAssured =
    (files : Files) (file log : List ℕ) (a : Answer) → IsAnswer (Some (ProveOf file)) files a → IsWritten a.status
    → file_of files log ≡ Some a.out
    → IsAnswer (Some (CheckOf log None)) files (assured_so a.notes)
    × IsAnswer (Some (CheckOf log (Some file))) files (assured_so a.notes)

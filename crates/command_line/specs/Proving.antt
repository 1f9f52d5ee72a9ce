-- What `prove` answers of the bytes of a file: the log of its proofs, and a line for each verdict.
use Rattle.std.specs.Prelude.{ℕ, List, [], Bool, true, false, if◌then◌else◌, Result}
use Rattle.std.specs.List.{list_all}
use Rattle.gcl_reader.specs.Grammar.{◌>>=◌}
use Rattle.gcl_reader.specs.declared.refusal.Refusal.{Refusal}
use Rattle.gcl_names.specs.Program.{program_of}
use Rattle.verdicts.specs.declared.verdict.Verdict.{Verdict}
use Rattle.verdicts.specs.declared.verdict.Verdict.TheVariants as verdict
use Rattle.proof_log.specs.Lines.{log_lines}
use Rattle.proof_log.specs.Text.{text_of}
use Rattle.proof_log.specs.declared.log.Proof.{Proof}
use Rattle.prove_run.specs.Logs.{log_of_program, newest}
use Rattle.command_line.specs.Answer.{Answer}
use Rattle.command_line.specs.VerdictLines.{verdicts_text, problems_in, verdicts_in}
use Rattle.command_line.specs.declared.status.Status.{Status}
use Rattle.command_line.specs.declared.status.Status.TheVariants.{Done, Unproved}

-- The proofs of a file's proves: each stage takes what the one before it gives, and the first that refuses decides.
unfoldable pub proofs_of : List ℕ → Result (List Proof) Refusal
proofs_of bytes = do
  program ← program_of bytes
  log_of_program program.acts

-- The text of their log.
abbrev pub log_text : List Proof → List ℕ
log_text proofs = text_of [] (log_lines newest proofs)

-- A verdict that proves its statement, if need be under conditions.
abbrev pub proves : Verdict → Bool
proves verdict.Proved = true
proves (verdict.Under cs) = true
proves (verdict.NotProved path k r) = false
proves (verdict.Degenerate path) = false
proves (verdict.Left path reason) = false

-- Done where each verdict proves its statement.
abbrev pub status_of : List Proof → Status
status_of proofs = if list_all (λ (p : Proof). proves p.verdict) proofs then Done else Unproved

-- The log stands on out, and the verdicts on notes.
abbrev pub proved : List Proof → Answer
proved proofs = record { status = status_of proofs; out = log_text proofs; notes = verdicts_text (problems_in proofs) (verdicts_in proofs) }

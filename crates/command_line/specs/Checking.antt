-- What `check` answers of the bytes of a log, and of a file whose problems it is to have.
use Rattle.std.specs.Prelude.{◌≡◌, ◌⊎◌, ℕ, List, ◌++◌, map, Result, Ok, Err, codes, decimal}
use Rattle.gcl_reader.specs.Grammar.{◌>>=◌}
use Rattle.gcl_reader.specs.declared.refusal.Refusal.{Refusal}
use Rattle.gcl_names.specs.Program.{program_of}
use Rattle.algebraize.specs.Equations.{Equations}
use Rattle.algebraize.specs.Formed.{equations}
use Rattle.algebraize.specs.Problem.{problems_of}
use Rattle.proof_steps.specs.declared.problem.Problem.{Problem}
use Rattle.proof_log.specs.Text.{word_text}
use Rattle.proof_log.specs.declared.line.LineWord.{LineWord}
use Rattle.verdicts.specs.declared.verdict.Verdict.{Verdict}
use Rattle.log_checker.specs.Answers.{Finding, Accepted, Malformed, Rejected, IsFound}
use Rattle.command_line.specs.Answer.{Answer, only_notes, refused, text_answer}
use Rattle.command_line.specs.VerdictLines.{verdicts_text, problems_in, verdicts_in}
use Rattle.command_line.specs.declared.status.Status.TheVariants as status

-- The verdicts of the problems, and that they are assured.
abbrev pub assured_text : List Problem → List Verdict → List ℕ
assured_text problems verdicts = verdicts_text problems verdicts ++ codes "assured\n"

-- `rejected: line L: WORD`
abbrev pub rejected_line : ℕ → List ℕ → List ℕ
rejected_line n word = codes "rejected: line " ++ decimal n ++ codes ": " ++ word ++ codes "\n"

abbrev pub malformed_at : ℕ → Answer
malformed_at n = only_notes status.Rejected (rejected_line n (codes "malformed"))

abbrev pub misfit_at : ℕ → LineWord → Answer
misfit_at n w = only_notes status.Rejected (rejected_line n (word_text w))

abbrev pub other_problems : Answer
other_problems = only_notes status.Rejected (codes "rejected: other problems\n")

-- ---- a log by itself
abbrev pub answer_to : Finding → Answer
answer_to (Accepted proofs) = text_answer (assured_text (problems_in proofs) (verdicts_in proofs))
answer_to (Malformed n) = malformed_at n
answer_to (Rejected n w) = misfit_at n w

-- The answer to what is found of the log.
pub record IsChecked (log : List ℕ) (a : Answer) : Type 0 where
  pub finding : Finding
  pub found : IsFound finding log
  pub answer : a ≡ answer_to finding

-- ---- a log against a file
-- The problems of a file's proves, or the first refusal.
unfoldable pub stated_in : List ℕ → Result (List Equations) Refusal
stated_in bytes = do
  program ← program_of bytes
  problems_of program.acts

-- The log has these problems, if it is accepted.
abbrev pub HasProblems : List Equations → Finding → Type 0
HasProblems stated (Accepted proofs) = map equations (problems_in proofs) ≡ stated
HasProblems stated (Malformed n) = Unit {0}
HasProblems stated (Rejected n w) = Unit {0}

-- The answer to what is found of a log that is to have these problems.
abbrev pub IsAnswerAgainst : List Equations → Finding → Answer → Type 0
IsAnswerAgainst stated finding a =
    (HasProblems stated finding × (a ≡ answer_to finding)) ⊎ ((HasProblems stated finding → ⊥) × (a ≡ other_problems))

pub record IsCompared (stated : List Equations) (log : List ℕ) (a : Answer) : Type 0 where
  pub finding : Finding
  pub found : IsFound finding log
  pub answer : IsAnswerAgainst stated finding a

-- A file that is refused decides the answer, whatever the log is.
abbrev pub IsComparedWith : Result (List Equations) Refusal → (log file : List ℕ) → Answer → Type 0
IsComparedWith (Ok stated) log file a = IsCompared stated log a
IsComparedWith (Err refusal) log file a = a ≡ refused file refusal

abbrev pub IsCheckedAgainst : (log file : List ℕ) → Answer → Type 0
IsCheckedAgainst log file a = IsComparedWith (stated_in file) log file a

-- What the checker found of a log, as the code has it, and the answer to that.
use Rattle.std.specs.Prelude.{◌≡◌, ◌↔◌, ◌⊎◌, ℕ, List, [], ◌∷◌, length, get_or, map, Bool, IsTrue, Option, Result, Ok, Err}
use Rattle.poly_model.specs.declared.limits.TheConstants.{MOST_LOG_BYTES}
use Rattle.desk_io.specs.Files.{Files}
use Rattle.gcl_reader.specs.Grammar.{Fails}
use Rattle.gcl_reader.specs.declared.refusal.GclFault.{GclFault}
use Rattle.gcl_reader.specs.declared.refusal.Refusal.{Refusal}
use Rattle.algebraize.specs.Equations.{Equations}
use Rattle.algebraize.specs.Formed.{equations}
use Rattle.proof_steps.specs.declared.problem.Problem.{Problem}
use Rattle.verdicts.specs.declared.verdict.Verdict.{Verdict}
use Rattle.proof_log.specs.Own.{VerdictIsOver}
use Rattle.log_checker.specs.Answers.{Malformed, Rejected, IsFound}
use Rattle.log_checker.specs.Checked.{Judged}
use Rattle.command_line.specs.Answer.{Answer, refused, text_answer}
use Rattle.command_line.specs.Checking.{stated_in, assured_text, malformed_at, misfit_at, other_problems}
use Rattle.command_line.specs.Readings.{WasRead}
use Rattle.command_line.specs.declared.checking.Found.{Found}
use Rattle.command_line.specs.declared.checking.Found.TheVariants as found

-- It is what is found of these bytes.
abbrev pub Finds : Found → List ℕ → Type 0
Finds (found.Accepted c) log = Judged (Ok c) log
Finds (found.Malformed n) log = IsFound (Malformed n) log
Finds (found.Rejected n w) log = IsFound (Rejected n w) log

abbrev pub answer_of : Found → Answer
answer_of (found.Accepted c) = text_answer (assured_text c.problems c.verdicts)
answer_of (found.Malformed n) = malformed_at n
answer_of (found.Rejected n w) = misfit_at n w

-- ---- against a file
-- The log has these problems, if it is accepted.
abbrev pub Has : List Equations → Found → Type 0
Has stated (found.Accepted c) = map equations c.problems ≡ stated
Has stated (found.Malformed n) = Unit {0}
Has stated (found.Rejected n w) = Unit {0}

-- The answer is whether it has the problems of a file; or the file is refused, or memory ran out.
abbrev pub Compares : Found → Result Bool GclFault → Result (List Equations) Refusal → Type 0
Compares f (Ok has) read = (stated : List Equations) × (read ≡ Ok stated) × (IsTrue has ↔ Has stated f)
Compares f (Err e) read = Fails e read

-- The answer to what is found of a log that is to have a file's problems.
abbrev pub IsAnswerFor : Result (List Equations) Refusal → (file : List ℕ) → Found → Answer → Type 0
IsAnswerFor (Ok stated) file f a = (Has stated f × (a ≡ answer_of f)) ⊎ ((Has stated f → ⊥) × (a ≡ other_problems))
IsAnswerFor (Err refusal) file f a = a ≡ refused file refusal

-- Of the files that are read behind the log, there is one.
abbrev pub IsAnswerBehind : Found → List (List ℕ) → Answer → Type 0
IsAnswerBehind f files a = IsAnswerFor (stated_in (get_or files 0 [])) (get_or files 0 []) f a

-- ---- what was read
-- It is what is found of the bytes of a log, which were read once.
pub record WasFound (held : Option Files) (name : List ℕ) (found : Found) : Type 0 where
  pub log : List ℕ
  pub read : WasRead held name MOST_LOG_BYTES log
  pub finds : Finds found log

-- ---- what is written of it
-- Each verdict has only the variables of its problem.
abbrev pub AreOver : List Problem → List Verdict → Type 0
AreOver [] vs = Unit {0}
AreOver (p ∷ ps) [] = Unit {0}
AreOver (p ∷ ps) (v ∷ vs) = VerdictIsOver (length p.vars) v × AreOver ps vs

abbrev pub HoldsOwn : Found → Type 0
HoldsOwn (found.Accepted c) = AreOver c.problems c.verdicts
HoldsOwn (found.Malformed n) = Unit {0}
HoldsOwn (found.Rejected n w) = Unit {0}

-- That the logs of the order of work are accepted, and that logs can be written and are short.
use Rattle.std.specs.Prelude.{ℕ, ◌<◌, ◌≤◌, List, [], length, IsTrue, All}
use Rattle.poly_model.specs.Names.{are_variables}
use Rattle.poly_model.specs.declared.limits.TheConstants.{MOST_FUEL, MOST_HYPOTHESES, MOST_CONCLUSIONS, MOST_LOG_BYTES}
use Rattle.proof_steps.specs.Stated.{IsStated}
use Rattle.proof_steps.specs.declared.problem.Problem.{Problem}
use Rattle.proof_log.specs.Accepted.{IsAccepted}
use Rattle.proof_log.specs.Headings.{Heading, heading, IsHeading}
use Rattle.proof_log.specs.Lines.{log_lines, LogWritten}
use Rattle.proof_log.specs.Settings.{unsettled, AreOf}
use Rattle.proof_log.specs.Text.{text_of, AreLines}
use Rattle.proof_log.specs.declared.limits.TheConstants.{MOST_PROOFS}
use Rattle.proof_steps.specs.declared.version.TheConstants.{VERSION}
use Rattle.proof_log.specs.declared.log.Proof.{Proof}
use Rattle.prove_run.specs.Logs.{log_of}

-- A problem as a figure states it, over a list of variables.
pub record IsPosed (problem : Problem) : Type 0 where
  pub vars : IsTrue (are_variables problem.vars)
  pub stated : IsStated problem

-- As many hypotheses, conclusions and pieces as a log may have.
pub record HasCounts (p : Proof) : Type 0 where
  pub hypotheses : length p.problem.hyps ≤ MOST_HYPOTHESES
  pub some_conclusion : 0 < length p.problem.cons
  pub conclusions : length p.problem.cons ≤ MOST_CONCLUSIONS
  pub some_piece : 0 < length p.tree.pieces

-- A version that is known and a fuel within the most, which all logs of the first version share.
pub record IsKnown (h : Heading) : Type 0 where
  pub some : 0 < h.version
  pub newest : h.version ≤ VERSION
  pub some_fuel : 0 < h.fuel
  pub most_fuel : h.fuel ≤ MOST_FUEL
  pub stated : IsHeading h

-- A log that can be written: its lines tell it whole, each line can stand in a log, and its text is not too long.
pub record IsWhole (h : Heading) (log : List Proof) : Type 0 where
  pub proofs : length log ≤ MOST_PROOFS
  pub counts : All HasCounts log
  pub written : LogWritten log
  pub lines : AreLines [] (log_lines h log)
  pub own : AreOf unsettled (log_lines h log)
  pub bytes : length (text_of [] (log_lines h log)) ≤ MOST_LOG_BYTES

-- Each accepted log of posed problems is such a log, whoever made it.
abbrev pub AcceptedIsWhole : Type 0
AcceptedIsWhole =
    (h : Heading) (log : List Proof) → IsKnown h → length log ≤ MOST_PROOFS → All (λ p. IsPosed p.problem) log → IsAccepted h log
    → IsWhole h log

-- The log of problems as figures state them is accepted, where all of a file have the most fuel.
abbrev pub LogsAreAccepted : Type 0
LogsAreAccepted = (version : ℕ) (problems : List Problem) → length problems ≤ MOST_PROOFS → All IsStated problems
    → let h = heading version MOST_FUEL in IsAccepted h (log_of h problems)

-- And so it can be written, where the variables are a list of variables.
abbrev pub LogsAreWhole : Type 0
LogsAreWhole =
    (version : ℕ) (problems : List Problem) → let h = heading version MOST_FUEL in IsKnown h → length problems ≤ MOST_PROOFS → All IsPosed problems
    → IsWhole h (log_of h problems)

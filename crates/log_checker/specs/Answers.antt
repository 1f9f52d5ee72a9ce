-- What is found of the bytes of a log: that it is accepted, or its first line at fault.
use Rattle.std.specs.Prelude.{◌≡◌, ℕ, ◌+◌, List, [], ◌∷◌, ◌++◌, ◌⊎◌, length, Some, None}
use Rattle.proof_log.specs.Accepted.{IsAccepted}
use Rattle.proof_log.specs.Grammar.{IsLog, Begins, Refuses, EndsEarly}
use Rattle.proof_log.specs.Headings.{Heading, IsHeading}
use Rattle.proof_log.specs.Lines.{log_lines}
use Rattle.proof_log.specs.Settings.{unsettled, AreOf}
use Rattle.proof_log.specs.Text.{row_of, text_of, AreLines}
use Rattle.proof_log.specs.declared.line.LogLine.{LogLine}
use Rattle.proof_log.specs.declared.line.LineWord.{LineWord}
use Rattle.proof_log.specs.declared.log.Proof.{Proof}
use Rattle.log_checker.specs.Fitting.{State, begin, after, fitted}

pub data Finding : Type 0 where
  Accepted : List Proof → Finding
  Malformed : (line : ℕ) → Finding
  Rejected : (line : ℕ) → LineWord → Finding

-- The bytes are the text of a log of these proofs, which is accepted.
pub record IsAcceptedText (log : List Proof) (bytes : List ℕ) : Type 0 where
  pub heading : Heading
  pub stated : IsHeading heading
  pub fits : IsLog log
  pub lines : AreLines [] (log_lines heading log)
  pub own : AreOf unsettled (log_lines heading log)
  pub text : bytes ≡ text_of [] (log_lines heading log)
  pub accepted : IsAccepted heading log

-- The line of a number is malformed: the grammar refuses it, or the bytes end there too early. Each line before it fits.
pub record IsMalformed (n : ℕ) (bytes : List ℕ) : Type 0 where
  pub front : List LogLine
  pub state : State
  pub fit : fitted begin front ≡ Some state
  pub stops : Refuses front bytes ⊎ EndsEarly front bytes
  pub number : n ≡ length front + 1

-- The line of a number is one that the grammar has there, and does not fit. Each line before it fits.
pub record IsRejected (n : ℕ) (w : LineWord) (bytes : List ℕ) : Type 0 where
  pub front : List LogLine
  pub line : LogLine
  pub rest : List ℕ
  pub state : State
  pub fit : fitted begin front ≡ Some state
  pub begins : Begins (front ++ line ∷ []) rest bytes
  pub misfit : after state line ≡ None
  pub number : n ≡ length front + 1
  pub word : w ≡ (row_of line).word

abbrev pub IsFound : Finding → List ℕ → Type 0
IsFound (Accepted log) bytes = IsAcceptedText log bytes
IsFound (Malformed n) bytes = IsMalformed n bytes
IsFound (Rejected n w) bytes = IsRejected n w bytes

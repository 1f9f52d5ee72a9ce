-- The grammar of logs: which lines a log begins with, and which bytes the grammar refuses.
use Rattle.std.specs.Prelude.{◌≡◌, ◌≢◌, ◌≤◌, ℕ, List, [], ◌∷◌, ◌++◌, length, IsTrue}
use Rattle.desk_io.specs.Characters.{line_feed}
use Rattle.poly_model.specs.declared.limits.TheConstants.{MOST_HYPOTHESES, MOST_CONCLUSIONS}
use Rattle.poly_model.specs.declared.vars.VarName.{VarName}
use Rattle.proof_steps.specs.declared.problem.Problem.{Problem}
use Rattle.proof_log.specs.Cuts.{Avoids}
use Rattle.proof_log.specs.Headings.{Heading}
use Rattle.proof_log.specs.Settings.{unsettled, is_of, setting_behind, AreOf}
use Rattle.proof_log.specs.Lines.{log_lines, LogWritten}
use Rattle.proof_log.specs.Text.{line_text, IsLine, names_after, text_of, AreLines}
use Rattle.proof_log.specs.declared.line.LogLine.{LogLine}
use Rattle.proof_log.specs.declared.log.Proof.{Proof}

-- At most so many hypotheses, and one conclusion or two.
pub record IsSized (problem : Problem) : Type 0 where
  pub hyps : length problem.hyps ≤ MOST_HYPOTHESES
  pub one : 1 ≤ length problem.cons
  pub two : length problem.cons ≤ MOST_CONCLUSIONS

-- Each proof has a problem of such a size, and a piece.
unfoldable pub AreProofs : List Proof → Type 0
AreProofs [] = Unit {0}
AreProofs (p ∷ ps) = IsSized p.problem × (1 ≤ length p.tree.pieces) × AreProofs ps

-- The proofs of a log that has lines. How many there may be, and in which version, its lines say.
pub record IsLog (log : List Proof) : Type 0 where
  pub proofs : AreProofs log
  pub written : LogWritten log

-- Lines with which some log begins.
pub record IsFront (front : List LogLine) : Type 0 where
  pub heading : Heading
  pub log : List Proof
  pub fits : IsLog log
  pub more : List LogLine
  pub begins : log_lines heading log ≡ front ++ more

-- The lines of a whole log.
pub record IsWhole (lines : List LogLine) : Type 0 where
  pub heading : Heading
  pub log : List Proof
  pub fits : IsLog log
  pub whole : lines ≡ log_lines heading log

-- The variables behind lines.
unfoldable pub names_behind : List VarName → List LogLine → List VarName
names_behind names [] = names
names_behind names (l ∷ ls) = names_behind (names_after names l) ls

-- No byte is LF.
abbrev pub IsUnended : List ℕ → Type 0
IsUnended bytes = Avoids line_feed bytes

-- The bytes are these lines, with which a log begins, and then the rest.
pub record Begins (front : List LogLine) (rest bytes : List ℕ) : Type 0 where
  pub lines : AreLines [] front
  pub own : AreOf unsettled front
  pub grammar : IsFront front
  pub text : bytes ≡ text_of [] front ++ rest

-- Behind these lines comes one that the grammar refuses, whatever follows it.
pub record Refuses (front : List LogLine) (bytes : List ℕ) : Type 0 where
  pub refused : List ℕ
  pub more : List ℕ
  pub begins : Begins front (refused ++ line_feed ∷ more) bytes
  pub one_line : IsUnended refused
  pub no_line : (l : LogLine) → IsLine (names_behind [] front) l → IsTrue (is_of (setting_behind unsettled front) l) → IsFront (front ++ l ∷ []) → refused ≢ line_text (names_behind [] front) l

-- The bytes end behind these lines, where no log ends.
pub record EndsEarly (front : List LogLine) (bytes : List ℕ) : Type 0 where
  pub rest : List ℕ
  pub begins : Begins front rest bytes
  pub unended : IsUnended rest
  pub early : rest ≡ [] → IsWhole front → ⊥

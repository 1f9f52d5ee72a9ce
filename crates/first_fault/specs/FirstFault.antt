-- The place of a fault, without the table of fitting lines: which lines begin those of an accepted log.
use Rattle.std.specs.Prelude.{◌≡◌, ◌↔◌, ◌+◌, ◌≤◌, ◌⊎◌, ℕ, List, [], ◌∷◌, ◌++◌, length, Some, None, IsTrue}
use Rattle.desk_io.specs.Characters.{line_feed}
use Rattle.proof_steps.specs.Rules.{has_second, size_of}
use Rattle.proof_log.specs.Accepted.{IsAccepted}
use Rattle.proof_log.specs.Grammar.{IsFront, IsLog, IsUnended}
use Rattle.proof_log.specs.Headings.{Heading, IsHeading}
use Rattle.proof_log.specs.Lines.{log_lines}
use Rattle.proof_log.specs.Settings.{unsettled, AreOf}
use Rattle.proof_log.specs.Text.{text_of, AreLines}
use Rattle.proof_log.specs.declared.line.LogLine.{LogLine}
use Rattle.proof_log.specs.declared.line.LogLine.TheVariants as line
use Rattle.proof_log.specs.declared.line.LineWord.{LineWord}
use Rattle.proof_log.specs.declared.log.Proof.{Proof}
use Rattle.log_checker.specs.Answers.{IsAcceptedText, IsMalformed, IsRejected}
use Rattle.log_checker.specs.Fitting.{Part, Opening, Within, Between, State, begin, root, after, fitted}

-- The lines begin those of an accepted log.
pub record BeginAccepted (lines : List LogLine) : Type 0 where
  pub heading : Heading
  pub stated : IsHeading heading
  pub log : List Proof
  pub fits : IsLog log
  pub spelled : AreLines [] (log_lines heading log)
  pub own : AreOf unsettled (log_lines heading log)
  pub accepted : IsAccepted heading log
  pub more : List LogLine
  pub begins : log_lines heading log ≡ lines ++ more

-- Where a proof comes next, and the version lets a log state its fuel, a root without hypotheses has fuel.
abbrev pub NextHasFuel : List LogLine → State → Type 0
NextHasFuel lines s = IsTrue (has_second s.version) → (k : ℕ) → IsFront (lines ++ line.Prove k ∷ []) → size_of (root (record s { hyps = [] })) ≤ s.fuel

-- Where a problem is being told, its root has fuel for its size so far.
abbrev pub RootHasFuel : List LogLine → State → Part → Type 0
RootHasFuel lines s Opening = size_of (root s) ≤ s.fuel
RootHasFuel lines s (Within path i) = Unit {0}
RootHasFuel lines s Between = NextHasFuel lines s

abbrev pub HasRoom : List LogLine → State → Type 0
HasRoom lines s = RootHasFuel lines s s.part

-- Each line fits, and the root has room.
pub record Fit (lines : List LogLine) : Type 0 where
  pub state : State
  pub fit : fitted begin lines ≡ Some state
  pub room : HasRoom lines state

-- Lines that the grammar lets through.
pub record AreLetThrough (lines : List LogLine) : Type 0 where
  pub spelled : AreLines [] lines
  pub own : AreOf unsettled lines
  pub grammar : IsFront lines

-- A line that does not fit behind these.
abbrev pub IsUnfit : List LogLine → LogLine → Type 0
IsUnfit front line = (s : State) × (fitted begin front ≡ Some s) × (after s line ≡ None)

-- ---- the laws

-- Fitting is the same as to begin an accepted log.
abbrev pub FittingBegins : Type 0
FittingBegins = (lines : List LogLine) → AreLetThrough lines → Fit lines ↔ BeginAccepted lines

-- The root that is told by these lines, or by those that come next, has no fuel for its size.
abbrev pub Overfills : List LogLine → Type 0
Overfills lines = (s : State) × (fitted begin lines ≡ Some s) × (HasRoom lines s → ⊥)

-- The lines before this one begin an accepted log, and together with it they begin none.
abbrev pub IsFirst : List LogLine → LogLine → Type 0
IsFirst front line = BeginAccepted front × (BeginAccepted (front ++ line ∷ []) → ⊥)

-- A line does not fit exactly where it is the first such line. The one exception is a root without fuel for its size: no
-- line of the problem is unfit for that, but the line behind the problem.
abbrev pub RejectedIsFirst : Type 0
RejectedIsFirst =
    (front : List LogLine) (line : LogLine) → AreLetThrough (front ++ line ∷ [])
    → (IsUnfit front line → (BeginAccepted front ⊎ Overfills front) × (BeginAccepted (front ++ line ∷ []) → ⊥))
    × (IsFirst front line → IsUnfit front line ⊎ Overfills (front ++ line ∷ []))

-- ---- and of bytes

-- The bytes begin the text of an accepted log.
abbrev pub BeginText : List ℕ → Type 0
BeginText bytes = (more : List ℕ) × (log : List Proof) × IsAcceptedText log (bytes ++ more)

-- With this line, which ends here, no text of an accepted log begins. Or the bytes end inside it, and are no such text.
abbrev pub NoneGoOn : (before line rest : List ℕ) → Type 0
NoneGoOn before line [] = (log : List Proof) → IsAcceptedText log (before ++ line) → ⊥
NoneGoOn before line (c ∷ behind) = (c ≡ line_feed) × (BeginText (before ++ (line ++ line_feed ∷ [])) → ⊥)

-- The line of a number: the lines before it begin the text of an accepted log, and together with it they begin none.
pub record IsFirstFault (n : ℕ) (bytes : List ℕ) : Type 0 where
  pub front : List LogLine
  pub line : List ℕ
  pub rest : List ℕ
  pub parts : bytes ≡ text_of [] front ++ (line ++ rest)
  pub number : n ≡ length front + 1
  pub one_line : IsUnended line
  pub before : BeginText (text_of [] front) ⊎ Overfills front
  pub none : NoneGoOn (text_of [] front) line rest

-- A malformed line and a rejected line are such.
abbrev pub FaultsAreFirst : Type 0
FaultsAreFirst =
    (n : ℕ) (bytes : List ℕ)
    → (IsMalformed n bytes → IsFirstFault n bytes) × ((w : LineWord) → IsRejected n w bytes → IsFirstFault n bytes)

-- That the lines of accepted logs fit.
use Rattle.std.specs.Prelude.{◌≡◌, ◌↔◌, ℕ, List, IsTrue, Option, Some, None}
use Rattle.poly_model.specs.Polynomial.{Polynomial}
use Rattle.proof_steps.specs.Trees.{same_path, follow}
use Rattle.proof_steps.specs.declared.piece.Node.{Node}
use Rattle.proof_steps.specs.declared.piece.Piece.{Piece}
use Rattle.verdicts.specs.Tallies.{Ending, ending_of}
use Rattle.proof_log.specs.Accepted.{IsAccepted}
use Rattle.proof_log.specs.Headings.{Heading, IsHeading}
use Rattle.proof_log.specs.declared.log.Proof.{Proof}
use Rattle.proof_log.specs.Lines.{work_lines, log_lines, PieceWritten, LogWritten}
use Rattle.log_checker.specs.Fitting.{At, listed, read, end_of, State, begin, fitted}

-- The lines behind a piece's first end in what follows the piece at a node; nothing where it doesn't fit there.
abbrev pub with_ending : Ending → Option (List Node) → Option (List Node × Ending)
with_ending e None = None
with_ending e (Some ms) = Some (ms, e)

abbrev pub EndsSo : (version : ℕ) → (cons : List Polynomial) → Node → Piece → Type 0
EndsSo version cons n p = end_of (read version cons (listed (At n)) (work_lines p)) ≡ with_ending (ending_of p.outcome) (follow version cons n p)

-- ---- the laws

abbrev pub PiecesEnd : Type 0
PiecesEnd = (version : ℕ) (cons : List Polynomial) (n : Node) (p : Piece) → PieceWritten cons p → IsTrue (same_path p.path n.path) → EndsSo version cons n p

abbrev pub PiecesAreWritten : Type 0
PiecesAreWritten = (version : ℕ) (cons : List Polynomial) (n : Node) (p : Piece) (ms : List Node) → follow version cons n p ≡ Some ms → PieceWritten cons p

-- The lines fit one after the other.
abbrev pub Fits : Heading → List Proof → Type 0
Fits h log = (t : State) × (fitted begin (log_lines h log) ≡ Some t)

abbrev pub FittingIsAccepted : Type 0
FittingIsAccepted = (h : Heading) (log : List Proof) → IsHeading h → LogWritten log → Fits h log ↔ IsAccepted h log

abbrev pub AcceptedGoesOn : Type 0
AcceptedGoesOn = (h : Heading) (log : List Proof) → IsHeading h → IsAccepted h log → LogWritten log × Fits h log

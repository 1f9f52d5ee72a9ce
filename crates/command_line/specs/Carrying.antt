-- What `carry` answers of the bytes of a log, of a file whose problems it is to have, and of a figure of the file's points.
use Rattle.std.specs.Prelude.{◌≡◌, ◌⊎◌, ℕ, ◌+◌, ℤ, List, [], ◌∷◌, ◌++◌, length, Result, Ok, Err, codes, decimal}
use Rattle.poly_model.specs.Domain.{integers}
use Rattle.gcl_reader.specs.Figure.{figure_of}
use Rattle.gcl_reader.specs.Grammar.{◌>>=◌}
use Rattle.gcl_reader.specs.declared.refusal.Refusal.{Refusal}
use Rattle.gcl_reader.specs.declared.word.Statement.{Statement}
use Rattle.gcl_names.specs.Program.{program_of}
use Rattle.gcl_names.specs.declared.program.Act.{Act}
use Rattle.gcl_names.specs.declared.program.Deed.TheVariants as deed
use Rattle.gcl_names.specs.declared.program.Program.{Program}
use Rattle.algebraize.specs.Equations.{Equations}
use Rattle.algebraize.specs.Figure.{Figure, Meets, MeetsStatement}
use Rattle.algebraize.specs.Problem.{problems_of, proves_in}
use Rattle.proof_steps.specs.declared.problem.Problem.{Problem}
use Rattle.verdicts.specs.declared.verdict.Verdict.{Verdict}
use Rattle.proof_log.specs.declared.log.Proof.{Proof}
use Rattle.log_checker.specs.Answers.{Finding, Accepted, Malformed, Rejected, IsFound}
use Rattle.placement.specs.Carrying.{carried_of}
use Rattle.placement.specs.declared.carried.Carried.{Carried}
use Rattle.placement.specs.declared.carried.Carried.TheVariants as carried
use Rattle.command_line.specs.Answer.{Answer, refused, text_answer}
use Rattle.command_line.specs.Assured.{IsAssuredLog}
use Rattle.command_line.specs.Checking.{HasProblems, malformed_at, misfit_at, other_problems}
use Rattle.command_line.specs.VerdictLines.{problems_in, verdicts_in}

-- ---- lines
abbrev pub carried_word : Carried → List ℕ
carried_word carried.NoClaim = codes "no claim"
carried_word carried.Flat = codes "flat"
carried_word carried.Past = codes "past"
carried_word carried.NoFigure = codes "no figure"
carried_word carried.SideCondition = codes "side condition"
carried_word carried.Holds = codes "holds"

-- `prove K: W`
abbrev pub carried_line : ℕ → Carried → List ℕ
carried_line k c = codes "prove " ++ decimal k ++ codes ": " ++ carried_word c ++ codes "\n"

-- A line for each of these. They are numbered from k on.
abbrev pub carried_lines : ℕ → List Carried → List ℕ
carried_lines k [] = []
carried_lines k (c ∷ cs) = carried_line k c ++ carried_lines (k + 1) cs

-- What these verdicts tell of a figure, those of the proves of the acts from the number k on, which are counted from 0.
abbrev pub all_carried : List Act → Figure ℤ → ℕ → List Problem → List Verdict → List Carried
all_carried acts f k [] vs = []
all_carried acts f k (p ∷ ps) [] = []
all_carried acts f k (p ∷ ps) (v ∷ vs) = carried_of acts k f p v ∷ all_carried acts f (k + 1) ps vs

abbrev pub carried_text : List Act → Figure ℤ → List Problem → List Verdict → List ℕ
carried_text acts f problems verdicts = carried_lines 1 (all_carried acts f 0 problems verdicts)

-- ---- answers
-- A program, and the problems of its proves.
pub record Posed : Type 0 where
  pub program : Program
  pub stated : List Equations

-- What is read of a file, or the first refusal.
unfoldable pub posed_in : List ℕ → Result Posed Refusal
posed_in bytes = do
  program ← program_of bytes
  stated ← problems_of program.acts
  Ok (record { program = program; stated = stated })

-- The answer to what is found of a log, where a figure of these acts is carried.
abbrev pub carried_to : List Act → Figure ℤ → Finding → Answer
carried_to acts f (Accepted proofs) = text_answer (carried_text acts f (problems_in proofs) (verdicts_in proofs))
carried_to acts f (Malformed n) = malformed_at n
carried_to acts f (Rejected n w) = misfit_at n w

-- An accepted log is to have the problems of the file.
pub record IsCarriedBy (posed : Posed) (f : Figure ℤ) (log : List ℕ) (a : Answer) : Type 0 where
  pub finding : Finding
  pub found : IsFound finding log
  pub answer : (HasProblems posed.stated finding × (a ≡ carried_to posed.program.acts f finding))
      ⊎ ((HasProblems posed.stated finding → ⊥) × (a ≡ other_problems))

-- A figure that is refused decides the answer, whatever the log is; and before it a file.
abbrev pub IsCarriedFor : Posed → Result (Figure ℤ) Refusal → (log figure : List ℕ) → Answer → Type 0
IsCarriedFor posed (Ok f) log figure a = IsCarriedBy posed f log a
IsCarriedFor posed (Err refusal) log figure a = a ≡ refused figure refusal

abbrev pub IsCarriedWith : Result Posed Refusal → (log file figure : List ℕ) → Answer → Type 0
IsCarriedWith (Ok posed) log file figure a = IsCarriedFor posed (figure_of posed.program.points figure) log figure a
IsCarriedWith (Err refusal) log file figure a = a ≡ refused file refusal

abbrev pub IsCarried : (log file figure : List ℕ) → Answer → Type 0
IsCarried log file figure a = IsCarriedWith (posed_in file) log file figure a

-- ---- what the lines say
-- Where `holds` is written for a prove, the figure meets the commands before it, and its statement.
pub record HoldsAreMet (acts : List Act) (f : Figure ℤ) (proofs : List Proof) : Type 0 where
  pub each : (before after : List Act) (prove : Act) (s : Statement) (points : List ℕ)
      → acts ≡ before ++ prove ∷ after → prove.deed ≡ deed.Prove s points
      → (earlier later : List Proof) (p : Proof) → proofs ≡ earlier ++ p ∷ later → length earlier ≡ proves_in before
      → carried_of acts (length earlier) f p.problem p.verdict ≡ carried.Holds → Meets integers f before × MeetsStatement integers f s points

-- The file and the figure are read, the log is assured, and the text is of its verdicts; what it says holds, is met.
pub record CarriesOf (log file figure : List ℕ) : Type 0 where
  pub program : Program
  pub read : program_of file ≡ Ok program
  pub places : Figure ℤ
  pub drawn : figure_of program.points figure ≡ Ok places
  pub assured : IsAssuredLog integers log
  pub text : IsCarried log file figure
      (text_answer (carried_text program.acts places (problems_in assured.proofs) (verdicts_in assured.proofs)))
  pub met : HoldsAreMet program.acts places assured.proofs

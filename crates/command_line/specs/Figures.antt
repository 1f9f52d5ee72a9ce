-- What the checker's yes to a log and a file says of the file's figures.
use Rattle.std.specs.Prelude.{◌≡◌, ℕ, List, [], ◌∷◌, ◌++◌, length, Ok}
use Rattle.poly_model.specs.Domain.{Operations}
use Rattle.poly_model.specs.Polynomial.{Polynomial}
use Rattle.poly_model.specs.Zeros.{NoneZero}
use Rattle.gcl_reader.specs.declared.word.Statement.{Statement}
use Rattle.gcl_names.specs.Program.{program_of}
use Rattle.gcl_names.specs.declared.program.Act.{Act}
use Rattle.gcl_names.specs.declared.program.Deed.TheVariants as deed
use Rattle.gcl_names.specs.declared.program.Program.{Program}
use Rattle.algebraize.specs.Figure.{Meets, MeetsStatement}
use Rattle.algebraize.specs.Layout.{figure_at}
use Rattle.algebraize.specs.Problem.{proves_in}
use Rattle.verdicts.specs.declared.verdict.Verdict.{Verdict}
use Rattle.verdicts.specs.declared.verdict.Verdict.TheVariants as verdict
use Rattle.proof_log.specs.declared.log.Proof.{Proof}
use Rattle.command_line.specs.Assured.{IsAssuredLog}

-- The figure at each point that meets the acts, and makes none of the conditions zero, meets the statement.
abbrev pub FigureHolds : {M : Type 0} → Operations M → List Act → Statement → List ℕ → List Polynomial → Type 0
FigureHolds {M} o acts s points conditions =
    (point : List M) → Meets o (figure_at o acts point) acts → NoneZero o conditions point
    → MeetsStatement o (figure_at o acts point) s points

-- What a verdict says of a statement over figures: proved and under say that it holds, the others nothing.
abbrev pub FigureClaims : {M : Type 0} → Operations M → List Act → Statement → List ℕ → Verdict → Type 0
FigureClaims o acts s points verdict.Proved = FigureHolds o acts s points []
FigureClaims o acts s points (verdict.Under cs) = FigureHolds o acts s points cs
FigureClaims o acts s points (verdict.NotProved path k r) = Unit {0}
FigureClaims o acts s points (verdict.Degenerate path) = Unit {0}
FigureClaims o acts s points (verdict.Left path reason) = Unit {0}

-- There is a proof for each prove of the program, and its verdict holds of the statement of that prove, over the figures of
-- the acts before it.
pub record FiguresHold {M : Type 0} (o : Operations M) (acts : List Act) (proofs : List Proof) : Type 0 where
  pub many : length proofs ≡ proves_in acts
  pub each : (before after : List Act) (prove : Act) (s : Statement) (points : List ℕ)
      → acts ≡ before ++ prove ∷ after → prove.deed ≡ deed.Prove s points
      → (earlier later : List Proof) (p : Proof) → proofs ≡ earlier ++ p ∷ later → length earlier ≡ proves_in before
      → FigureClaims o before s points p.verdict

-- The bytes of the file are a program's, the log is assured, and its verdicts hold of the program's figures.
pub record IsAssuredOf {M : Type 0} (o : Operations M) (log file : List ℕ) : Type 0 where
  pub program : Program
  pub read : program_of file ≡ Ok program
  pub assured : IsAssuredLog o log
  pub figures : FiguresHold o program.acts assured.proofs

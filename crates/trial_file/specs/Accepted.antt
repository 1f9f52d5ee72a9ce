-- The files of trials are accepted: each is read, its names are resolved, and each of its proves has its equations.
use Rattle.std.specs.Prelude.{◌≡◌, ℕ, ◌≤◌, List, length, Ok}
use Rattle.gcl_reader.specs.declared.limits.TheConstants.{MOST_BYTES}
use Rattle.gcl_names.specs.Program.{program_of}
use Rattle.gcl_names.specs.declared.program.Program.{Program}
use Rattle.algebraize.specs.Equations.{Equations}
use Rattle.algebraize.specs.Problem.{problems_of}
use Rattle.trial_file.specs.Trial.{trial_text}

-- A file has a program, and its program has problems.
pub record IsAccepted (bytes : List ℕ) : Type 0 where
  pub short : length bytes ≤ MOST_BYTES
  pub program : Program
  pub resolved : program_of bytes ≡ Ok program
  pub problems : List Equations
  pub stated : problems_of program.acts ≡ Ok problems

abbrev pub TrialsAreAccepted : Type 0
TrialsAreAccepted = (n : ℕ) → IsAccepted (trial_text n)

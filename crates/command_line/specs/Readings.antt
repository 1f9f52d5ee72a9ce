-- What a run reads of the files that it is to read.
use Rattle.std.specs.Prelude.{ℕ, ◌≤◌, List, [], ◌∷◌, length, map, Option, None}
use Rattle.desk_io.specs.Files.{Files, Lacks, file_of}
use Rattle.log_checker.specs.Checked.{AreOf}

-- The bytes of a file; or nothing, where it cannot be read.
abbrev pub Reading : Type 0
Reading = Option (List ℕ)

-- The readings of some names, one for each, over the files that a desk holds.
abbrev pub readings_of : Files → List (List ℕ) → List Reading
readings_of files names = map (file_of files) names

abbrev pub first_of : List Reading → Reading
first_of [] = None
first_of (reading ∷ readings) = reading

-- These bytes were read of a name, and may be so many. Where the desk tells its files, they are those of the file.
pub record WasRead (held : Option Files) (name : List ℕ) (most : ℕ) (bytes : List ℕ) : Type 0 where
  pub own : AreOf held name bytes
  pub there : Lacks held name → ⊥
  pub fits : length bytes ≤ most

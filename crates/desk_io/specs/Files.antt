-- What a desk holds: files under names, each a list of bytes.
use Rattle.std.specs.Prelude.{◌≡◌, ℕ, ◌≤◌, ◌<◌, List, [], ◌∷◌, length, take, drop, None, Some, Option, cond}
use Rattle.std.specs.Str.{bytes_eq}

-- A finite map from names to bytes, as a list: a name that stands twice has its first bytes.
abbrev pub Files : Type 0
Files = List (List ℕ × List ℕ)

-- The bytes under a name, if there are any.
abbrev pub file_of : Files → List ℕ → Option (List ℕ)
file_of [] name = None
file_of (file ∷ files) name = cond (bytes_eq file.0 name) (Some file.1) (file_of files name)

-- What is known of a name: nothing where the desk leaves its files untold.
abbrev pub known_at : Option Files → List ℕ → Option (Option (List ℕ))
known_at None name = None
known_at (Some files) name = Some (file_of files name)

-- The desk tells what it holds, and holds this file under the name.
abbrev pub Holds : Option Files → List ℕ → List ℕ → Type 0
Holds held name file = known_at held name ≡ Some (Some file)

-- The desk tells what it holds, and has no file of the name.
abbrev pub Lacks : Option Files → List ℕ → Type 0
Lacks held name = known_at held name ≡ Some None

-- What a read of n bytes from an offset on says of the file: these are its bytes, and there are none only at its end
-- or where there is no room.
pub record ReadsFile (file : List ℕ) (from n : ℕ) (piece : List ℕ) : Type 0 where
  pub bytes : take n piece ≡ take n (drop from file)
  pub end : n ≡ 0 → 0 < length piece → length file ≤ from

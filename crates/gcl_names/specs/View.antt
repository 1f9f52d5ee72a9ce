-- The entries of the table of names, as texts and what they mean.
use Rattle.std.specs.Prelude.{ℕ, List, map}
use Rattle.gcl_names.specs.declared.meaning.Meaning.{Meaning}
use denote.Ref.{Bor}

abbrev pub name_of_entry : Bor (List ℕ) × Meaning → List ℕ × Meaning
name_of_entry e = (e.0.now, e.1)

abbrev pub names_of : List (Bor (List ℕ) × Meaning) → List (List ℕ × Meaning)
names_of es = map name_of_entry es

-- What is defined so far: the names with their meanings, in order of definition.
use Rattle.std.specs.Prelude.{ℕ, List, [], ◌∷◌, Option, Some, None, if◌then◌else◌}
use Rattle.std.specs.Str.{bytes_eq}
use Rattle.gcl_names.specs.declared.meaning.Meaning.{Meaning}
use Rattle.gcl_names.specs.declared.scope.Scope.{Scope}

-- Names, with what they mean.
abbrev pub Meanings : Type 0
Meanings = List (List ℕ × Meaning)

-- What a text means among them.
unfoldable pub meaning_in : List ℕ → Meanings → Option Meaning
meaning_in text [] = None
meaning_in text (e ∷ es) = if bytes_eq text e.0 then Some e.1 else meaning_in text es

-- In front of the first command nothing is defined.
abbrev pub nothing_defined : Scope
nothing_defined = record { names = []; points = []; lines = 0; circles = 0; proves = 0 }

-- Commands that make a text of one file.
use Rattle.std.specs.Prelude.{ℕ, List, Result}
use Rattle.gcl_reader.specs.declared.refusal.Refusal.{Refusal}

-- The text that a command makes of the bytes of a file, or why it refuses them.
abbrev pub Command : Type 0
Command = List ℕ → Result (List ℕ) Refusal

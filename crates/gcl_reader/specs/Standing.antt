-- Where the tokens of a file stand: found in the whole file, and not on a walk through it.
use Rattle.std.specs.Prelude.{◌≡◌, ℕ, ◌+◌, List, length, take, drop, Bool, ◌==◌, count_by}
use Rattle.std.specs.List.{AllByRecursion}
use Rattle.gcl_reader.specs.Tokens.{Token, tokens}
use Rattle.desk_io.specs.Characters.{line_feed}

abbrev pub is_line_feed : ℕ → Bool
is_line_feed b = b == line_feed

-- The token's text is in the file at its place, and its line is one more than the line feeds before it.
abbrev pub StandsIn : List ℕ → Token → Type 0
StandsIn bytes t =
    (t.text ≡ take (length t.text) (drop t.at bytes)) × (t.line ≡ 1 + count_by is_line_feed (take t.at bytes))

-- All tokens of every file do.
abbrev pub TokensStand : Type 0
TokensStand = (bytes : List ℕ) → AllByRecursion (StandsIn bytes) (tokens bytes)

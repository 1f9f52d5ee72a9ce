-- Lines that are put together from pieces.
use Rattle.std.specs.Prelude.{ℕ, ◌≤◌, ◌*◌, List, decimal, ◌-ℤ◌, unsigned_abs}
use Rattle.std.specs.List.{flat_map}
use Rattle.fixed_point.specs.Text.{number_text}
use Rattle.fixed_point.specs.declared.limits.TheConstants.{MOST_TICKS, TICK_DECIMALS}
use Rattle.picture.specs.declared.piece.Piece.{Piece}
use Rattle.picture.specs.declared.piece.Piece.TheVariants.{Text, Length, Across, Up, Down, Red, Green, Blue}

-- Texts in a row.
abbrev pub row : List (List ℕ) → List ℕ
row texts = flat_map (λ text. text) texts

-- What a piece stands for.
abbrev pub piece_text : Piece → List ℕ
piece_text (Text bytes) = bytes.now
piece_text (Length length) = number_text TICK_DECIMALS length.ticks
piece_text (Across a) = number_text TICK_DECIMALS a.x
piece_text (Up a) = number_text TICK_DECIMALS a.y
piece_text (Down height a) = number_text TICK_DECIMALS (height.ticks -ℤ a.y)
piece_text (Red ink) = decimal ink.r
piece_text (Green ink) = decimal ink.g
piece_text (Blue ink) = decimal ink.b

-- All pieces, one behind the other.
abbrev pub pieces_text : List Piece → List ℕ
pieces_text pieces = flat_map piece_text pieces

-- The difference that a piece stands for can be formed.
abbrev pub IsWritable : Piece → Type 0
IsWritable (Text bytes) = Unit {0}
IsWritable (Length length) = Unit {0}
IsWritable (Across a) = Unit {0}
IsWritable (Up a) = Unit {0}
IsWritable (Down height a) = (unsigned_abs height.ticks ≤ MOST_TICKS) × (unsigned_abs a.y ≤ 2 * MOST_TICKS)
IsWritable (Red ink) = Unit {0}
IsWritable (Green ink) = Unit {0}
IsWritable (Blue ink) = Unit {0}

-- Which texts are names.
use Rattle.std.specs.Prelude.{ℕ, List, [], ◌∷◌, length, Bool, false, if◌then◌else◌, ◌&&◌, ◌||◌, ◌==◌, nat_le, nat_lt, Option, Some, None}
use Rattle.std.specs.List.{list_all}
use Rattle.desk_io.specs.Characters.{apostrophe, capital_a, capital_z, is_digit, low_line, small_a, small_z}
use Rattle.gcl_reader.specs.declared.limits.TheConstants.{LONGEST_NAME}

-- A to Z, a to z.
abbrev pub is_letter : ℕ → Bool
is_letter b = (nat_le capital_a b && nat_le b capital_z) || (nat_le small_a b && nat_le b small_z)

-- A letter, a digit, an underscore or an apostrophe.
abbrev pub is_name_byte : ℕ → Bool
is_name_byte b = is_letter b || is_digit b || (b == low_line) || (b == apostrophe)

-- A letter, and at most 31 letters, digits, underscores and apostrophes.
unfoldable pub is_name : List ℕ → Bool
is_name [] = false
is_name (b ∷ bs) = is_letter b && nat_lt (length bs) LONGEST_NAME && list_all is_name_byte bs

-- The name that a text is, if it is one.
abbrev pub name_of : List ℕ → Option (List ℕ)
name_of text = if is_name text then Some text else None

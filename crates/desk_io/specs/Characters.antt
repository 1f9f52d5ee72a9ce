-- The characters that texts are made of, as bytes.
use Rattle.std.specs.Prelude.{ℕ, Bool, ◌&&◌, nat_le}

abbrev pub tab : ℕ
tab = 9

abbrev pub line_feed : ℕ
line_feed = 10

abbrev pub carriage_return : ℕ
carriage_return = 13

abbrev pub space : ℕ
space = 32

abbrev pub percent : ℕ
percent = 37

abbrev pub apostrophe : ℕ
apostrophe = 39

abbrev pub star : ℕ
star = 42

abbrev pub plus : ℕ
plus = 43

abbrev pub minus : ℕ
minus = 45

abbrev pub full_stop : ℕ
full_stop = 46

abbrev pub digit_zero : ℕ
digit_zero = 48

abbrev pub digit_nine : ℕ
digit_nine = 57

abbrev pub capital_a : ℕ
capital_a = 65

abbrev pub capital_z : ℕ
capital_z = 90

abbrev pub caret : ℕ
caret = 94

abbrev pub low_line : ℕ
low_line = 95

abbrev pub small_a : ℕ
small_a = 97

abbrev pub small_u : ℕ
small_u = 117

abbrev pub small_x : ℕ
small_x = 120

abbrev pub small_z : ℕ
small_z = 122

abbrev pub open_brace : ℕ
open_brace = 123

abbrev pub close_brace : ℕ
close_brace = 125

-- A decimal digit.
abbrev pub is_digit : ℕ → Bool
is_digit b = nat_le digit_zero b && nat_le b digit_nine

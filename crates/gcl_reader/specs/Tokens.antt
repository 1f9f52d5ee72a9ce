-- The tokens of a file, and where they stand.
use Rattle.std.specs.Prelude.{ℕ, ◌+◌, List, [], ◌∷◌, length, Bool, false, if◌then◌else◌, ◌&&◌, ◌||◌, not, ◌==◌, nat_le, IsTrue}
use Rattle.std.specs.List.{take_while}
use Rattle.desk_io.specs.Characters.{carriage_return, close_brace, line_feed, open_brace, percent, space, tab}

-- A token, and where it stands. A byte that is no text is a token without text.
pub record Token : Type 0 where
  pub line : ℕ
  pub at : ℕ
  pub text : List ℕ

-- The first and the last of the visible ASCII characters: the exclamation mark and the tilde.
abbrev pub first_visible : ℕ
first_visible = 33

abbrev pub last_visible : ℕ
last_visible = 126

-- Space, tab, carriage return and line feed part tokens.
unfoldable pub is_blank : ℕ → Bool
is_blank b = (b == space) || (b == tab) || (b == carriage_return) || (b == line_feed)

-- A brace is a token of its own.
unfoldable pub is_brace : ℕ → Bool
is_brace b = (b == open_brace) || (b == close_brace)

-- Every other token is a run of these: visible ASCII characters other than a percent sign and braces.
unfoldable pub is_word : ℕ → Bool
is_word b = nat_le first_visible b && nat_le b last_visible && not (b == percent) && not (is_brace b)

-- Where a byte stands: between tokens, right behind a byte of such a run, or in a comment.
pub data Mode : Type 0 where
  Between : Mode
  Inside : Mode
  Comment : Mode

-- The line of the byte behind b: a line feed belongs to the line that it ends.
abbrev pub line_after : ℕ → ℕ → ℕ
line_after b line = if b == line_feed then line + 1 else line

-- Where the byte behind b stands: a comment begins with a percent sign and ends before a line feed.
abbrev pub mode_after : Mode → ℕ → Mode
mode_after Comment b = if b == line_feed then Between else Comment
mode_after m b = if b == percent then Comment else (if is_word b then Inside else Between)

-- The longest token that begins with the byte b, in front of bs.
abbrev pub text_from : ℕ → List ℕ → List ℕ
text_from b bs = if is_word b then (b ∷ take_while is_word bs) else (if is_brace b then b ∷ [] else [])

-- Whether a token begins with the byte b.
abbrev pub begins : Mode → ℕ → Bool
begins Comment b = false
begins Inside b = not (is_word b || is_blank b || (b == percent))
begins Between b = not (is_blank b || (b == percent))

-- The bytes have ended, or a token begins with the first.
abbrev pub begins_token : List ℕ → Type 0
begins_token [] = Unit {0}
begins_token (b ∷ bs) = IsTrue (begins Between b)

-- The tokens that begin in the bytes from one place on.
unfoldable pub tokens_from : Mode → ℕ → ℕ → List ℕ → List Token
tokens_from m line at [] = []
tokens_from m line at (b ∷ bs) =
    let rest = tokens_from (mode_after m b) (line_after b line) (at + 1) bs in
    if begins m b then record { line = line; at = at; text = text_from b bs } ∷ rest else rest

-- The line of the last byte, where `last` is that of the byte before.
unfoldable pub last_line : ℕ → ℕ → List ℕ → ℕ
last_line line last [] = last
last_line line last (b ∷ bs) = last_line (line_after b line) line bs

-- The tokens of a file, and its end: the line of the last byte, and the length.
pub record Lexed : Type 0 where
  pub tokens : List Token
  pub end_line : ℕ
  pub end_at : ℕ

-- What is ahead of a place in a file.
abbrev pub ahead_of : Mode → ℕ → ℕ → ℕ → List ℕ → Lexed
ahead_of m line last at bytes = record {
  tokens = tokens_from m line at bytes;
  end_line = last_line line last bytes;
  end_at = at + length bytes;
}

-- A token in front of what is ahead of its end.
abbrev pub put : Token → Lexed → Lexed
put t after = record after { tokens = t ∷ after.tokens }

-- What a whole file has: its tokens, and its end.
abbrev pub lexed : List ℕ → Lexed
lexed bytes = ahead_of Between 1 1 0 bytes

abbrev pub tokens : List ℕ → List Token
tokens bytes = tokens_from Between 1 0 bytes

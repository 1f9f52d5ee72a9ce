-- What stands in front of a list of bytes is a token.
use Rattle.std.proofs.Common.{◌≡◌, ℕ, ◌+◌, ◌<◌, List, [], ◌∷◌, length, get_or, take, drop, refl, ap, ◌∙◌, arith, Bool, true, false, ◌==◌, ◌||◌}
use Rattle.std.specs.List.{take_while}
use Rattle.std.proofs.lemmas.List.Sums.{take_while-cons}
use Rattle.std.proofs.lemmas.Grind.{common_steps}
use Rattle.std.proofs.lemmas.Bool.{or_parts, not-true}
use Rattle.std.proofs.lemmas.Bool.Decides.{nat_tests}
use Rattle.gcl_reader.specs.Tokens.{Token, Lexed, Between, Inside, tokens_from, last_line, ahead_of, put, is_word, is_brace, is_blank, begins_token}
use Rattle.desk_io.specs.Characters.{percent, line_feed}

abbrev word_len : List ℕ → ℕ
word_len bytes = length (take_while is_word bytes)

word-lf : (b : ℕ) → is_word b ≡ true → (b == line_feed) ≡ false
unfolding is_word
word-lf b e = grind (arith, nat_tests)

word-percent : (b : ℕ) → is_word b ≡ true → (b == percent) ≡ false
unfolding is_word
word-percent b e = grind (arith, nat_tests)

word-blank : (b : ℕ) → is_word b ≡ true → is_blank b ≡ false
unfolding is_word is_blank
word-blank b e = grind (arith, nat_tests)

brace-lf : (b : ℕ) → is_brace b ≡ true → (b == line_feed) ≡ false
unfolding is_brace
brace-lf b e = grind (arith, nat_tests)

brace-percent : (b : ℕ) → is_brace b ≡ true → (b == percent) ≡ false
unfolding is_brace
brace-percent b e = grind (arith, nat_tests)

brace-blank : (b : ℕ) → is_brace b ≡ true → is_blank b ≡ false
unfolding is_brace is_blank
brace-blank b e = grind (arith, nat_tests)

blank-lf : (b : ℕ) → is_blank b ≡ false → (b == line_feed) ≡ false
unfolding is_blank
blank-lf b e = grind (arith, nat_tests)

pub word_len-cons : (b : ℕ) (bs : List ℕ) → is_word b ≡ true → word_len (b ∷ bs) ≡ 1 + word_len bs
word_len-cons b bs e = rw (take_while-cons is_word b bs, e) (grind (arith, common_steps))

pub word_len-stop : (b : ℕ) (bs : List ℕ) → is_word b ≡ false → word_len (b ∷ bs) ≡ 0
word_len-stop b bs e = rw (take_while-cons is_word b bs, e) refl

pub inside-step : (line at b : ℕ) (bs : List ℕ) → is_word b ≡ true → ahead_of Inside line line at (b ∷ bs) ≡ ahead_of Inside line line (at + 1) bs
unfolding tokens_from last_line
inside-step line at b bs e = simp (e, word-lf b e, word-percent b e, word-blank b e) (grind (arith, common_steps))

pub inside-stop : (line at b : ℕ) (bs : List ℕ) → is_word b ≡ false → ahead_of Inside line line at (b ∷ bs) ≡ ahead_of Between line line at (b ∷ bs)
unfolding tokens_from last_line
inside-stop line at b bs e = simp e

inside-end : (line at : ℕ) → ahead_of Inside line line at [] ≡ ahead_of Between line line (at + word_len []) (drop (word_len []) [])
unfolding tokens_from last_line
inside-end line at = grind (arith, common_steps)

abbrev RunOf : ℕ → ℕ → List ℕ → Type 0
RunOf line at bytes = ahead_of Inside line line at bytes ≡ ahead_of Between line line (at + word_len bytes) (drop (word_len bytes) bytes)

inside-byte : (line at b : ℕ) (bs : List ℕ) (t : Bool) → is_word b ≡ t → RunOf line (at + 1) bs → RunOf line at (b ∷ bs)
inside-byte line at b bs true e run = rw (inside-step line at b bs e, word_len-cons b bs e) (run ∙ grind (arith, common_steps))
inside-byte line at b bs false e run = rw (inside-stop line at b bs e, word_len-stop b bs e) (grind (arith, common_steps))

-- Behind a byte of a word, the rest of the word begins no token.
pub inside-run : (line at : ℕ) (bytes : List ℕ) → RunOf line at bytes
inside-run line at [] = inside-end line at
inside-run line at (b ∷ bs) = inside-byte line at b bs (is_word b) refl (inside-run line (at + 1) bs)

between-word : (line last at b : ℕ) (bs : List ℕ) → is_word b ≡ true →
    ahead_of Between line last at (b ∷ bs) ≡ put (record { line = line; at = at; text = b ∷ take_while is_word bs }) (ahead_of Inside line line (at + 1) bs)
unfolding tokens_from last_line
between-word line last at b bs e = simp (e, word-lf b e, word-percent b e, word-blank b e) (grind (arith, common_steps))

taken : (n : ℕ) (xs : List ℕ) → take (length (take n xs)) xs ≡ take n xs
taken n xs = grind (arith, common_steps)

word-joined : (line at b : ℕ) (bs : List ℕ) → is_word b ≡ true →
    put (record { line = line; at = at; text = b ∷ take_while is_word bs }) (ahead_of Between line line (at + 1 + word_len bs) (drop (word_len bs) bs))
    ≡ put (record { line = line; at = at; text = take (word_len (b ∷ bs)) (b ∷ bs) }) (ahead_of Between line line (at + word_len (b ∷ bs)) (drop (word_len (b ∷ bs)) (b ∷ bs)))
word-joined line at b bs e = rw (word_len-cons b bs e) (grind (arith, common_steps))

-- A word in front is a token.
pub word-cut : (line last at : ℕ) (bytes : List ℕ) → 0 < length bytes → is_word (get_or bytes 0 0) ≡ true →
    ahead_of Between line last at bytes ≡ put (record { line = line; at = at; text = take (word_len bytes) bytes }) (ahead_of Between line line (at + word_len bytes) (drop (word_len bytes) bytes))
word-cut line last at [] h e = absurd (omega (arith, h))
word-cut line last at (b ∷ bs) h e =
    between-word line last at b bs e ∙ ap (put _) (inside-run line (at + 1) bs) ∙ word-joined line at b bs e

-- A brace in front is a token.
pub brace-cut : (line last at : ℕ) (bytes : List ℕ) → 0 < length bytes → is_word (get_or bytes 0 0) ≡ false → is_brace (get_or bytes 0 0) ≡ true →
    ahead_of Between line last at bytes ≡ put (record { line = line; at = at; text = take 1 bytes }) (ahead_of Between line line (at + 1) (drop 1 bytes))
unfolding tokens_from last_line
brace-cut line last at [] h w e = absurd (omega (arith, h))
brace-cut line last at (b ∷ bs) h w e = simp (w, e, brace-lf b e, brace-percent b e, brace-blank b e) (grind (arith, common_steps))

-- So is a byte that is no text, without text.
pub other-cut : (line last at : ℕ) (bytes : List ℕ) → 0 < length bytes → is_word (get_or bytes 0 0) ≡ false → is_brace (get_or bytes 0 0) ≡ false → begins_token bytes →
    ahead_of Between line last at bytes ≡ put (record { line = line; at = at; text = take 0 bytes }) (ahead_of Between line line (at + 1) (drop 1 bytes))
unfolding tokens_from last_line
other-cut line last at [] h w e k = absurd (omega (arith, h))
other-cut line last at (b ∷ bs) h w e k =
    let p = or_parts (is_blank b) (b == percent) (not-true (is_blank b || (b == percent)) k) in simp (w, e, p.0, p.1, blank-lf b p.0) (grind (arith, common_steps))

-- Where the bytes have ended, so has the file.
pub none-ahead : (line last at : ℕ) (bytes : List ℕ) → length bytes < 1 → ahead_of Between line last at bytes ≡ record { tokens = []; end_line = last; end_at = at }
unfolding tokens_from last_line
none-ahead line last at [] h = grind (arith, common_steps)
none-ahead line last at (b ∷ bs) h = absurd (omega (arith, h))

-- The same, as a lexer says it.
pub cut-next : {before after cut : Lexed} {t u : Token} → before ≡ put u cut → t ≡ u → after ≡ cut → before ≡ put t after
cut-next e p q = cc

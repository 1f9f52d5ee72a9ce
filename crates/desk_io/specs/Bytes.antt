-- What a sink and a pen do to the bytes that are written and gathered.
use Rattle.std.specs.Prelude.{◌≡◌, ℕ, List, ◌++◌, Option, Result, MatchResult}
use Rattle.std.specs.Io.KnownBytes.{append_known}

-- The written bytes grew by a front of these bytes.
pub record GrewByFront (old new : Option (List ℕ)) (bytes : List ℕ) : Type 0 where
  pub front : List ℕ
  pub rest : List ℕ
  pub parts : bytes ≡ front ++ rest
  pub written : new ≡ append_known old front

-- A put: at `Ok` the written bytes grew by all of these bytes, at `Err` by a front of them.
abbrev pub Puts : {T E : Type 0} → Option (List ℕ) → Option (List ℕ) → Result T E → List ℕ → Type 0
Puts old new result bytes = MatchResult result (λ _. new ≡ append_known old bytes) (λ _. GrewByFront old new bytes)

-- The written bytes, followed by the gathered ones, grew by a text: `out` of what was gathered and of the text has been
-- written, and the rest is gathered.
pub record Grew (old new : Option (List ℕ)) (old_gathered gathered text : List ℕ) : Type 0 where
  pub out : List ℕ
  pub written : new ≡ append_known old out
  pub gathered_rest : out ++ gathered ≡ old_gathered ++ text

-- What a writer does over a pen and a sink: at `Ok` the text stands behind what was written and gathered, at `Err` the
-- written bytes grew by a front of what was gathered and the text.
abbrev pub Writes : {T E : Type 0} → Option (List ℕ) → Option (List ℕ) → List ℕ → List ℕ → Result T E → List ℕ → Type 0
Writes old new old_gathered gathered result text =
    MatchResult result (λ _. Grew old new old_gathered gathered text) (λ _. GrewByFront old new (old_gathered ++ text))

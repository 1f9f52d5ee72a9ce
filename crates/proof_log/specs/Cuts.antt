-- Texts that are cut where a byte stands first.
use Rattle.std.specs.Prelude.{◌≡◌, ◌≢◌, ℕ, List, [], ◌∷◌}

-- No byte is this one.
abbrev pub Avoids : ℕ → List ℕ → Type 0
Avoids byte [] = Unit {0}
Avoids byte (b ∷ bs) = (b ≢ byte) × Avoids byte bs

-- The text ends, or the byte stands first.
abbrev pub EndsAt : ℕ → List ℕ → Type 0
EndsAt byte [] = Unit {0}
EndsAt byte (b ∷ bs) = b ≡ byte

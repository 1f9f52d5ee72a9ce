-- A file is refused at the first token that offends.
use Rattle.std.specs.Prelude.{◌≡◌, ℕ, List, [], ◌∷◌, ◌++◌, Err}
use Rattle.gcl_reader.specs.Tokens.{Token, lexed, tokens}
use Rattle.gcl_reader.specs.Grammar.{refused, span_of_end, file_of}
use Rattle.gcl_reader.specs.Span.{refusal}
use Rattle.gcl_reader.specs.Fitting.{IsFitting}
use Rattle.gcl_reader.specs.Spelling.{Spells}
use Rattle.gcl_reader.specs.declared.refusal.Kind.TheVariants as kind
use Rattle.gcl_reader.specs.declared.refusal.Refusal.{Refusal}
use Rattle.gcl_reader.specs.declared.file.Command.{Command}

-- The tokens begin those of some fitting commands.
abbrev pub Begin : List Token → Type 0
Begin ts = (more : List Token) × (commands : List Command) × Spells (ts ++ more) commands × IsFitting commands

-- The refusal is that of the first token behind those before it, and together with it they begin no fitting commands.
-- Or no token is behind them: they spell no fitting commands, and the refusal is that of a file that ends inside one.
abbrev pub Offends : List ℕ → List Token → List Token → Refusal → Type 0
Offends bytes before [] r =
    (r ≡ refusal kind.EndInside (span_of_end (lexed bytes)))
    × ((commands : List Command) → Spells before commands → IsFitting commands → ⊥)
Offends bytes before (t ∷ behind) r = (r ≡ refused r.kind t) × (Begin (before ++ t ∷ []) → ⊥)

-- Where a file is refused, the tokens before that place begin fitting commands.
abbrev pub TheFirstOffends : Type 0
TheFirstOffends = (bytes : List ℕ) (r : Refusal) → file_of bytes ≡ Err r →
    (before : List Token) × (rest : List Token) × (tokens bytes ≡ before ++ rest)
    × Begin before × Offends bytes before rest r

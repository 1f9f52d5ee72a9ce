-- How a list of tokens spells a list of commands, as a relation.
use Rattle.std.specs.Prelude.{◌≡◌, ℕ, List, [], ◌∷◌, ◌++◌, length, Option, Some, None, Ok, codes}
use Rattle.std.specs.List.{AllZip}
use Rattle.fixed_point.specs.Decimal.{fix_of}
use Rattle.gcl_reader.specs.Tokens.{Token, tokens}
use Rattle.gcl_reader.specs.Table.{text_of, statement_text}
use Rattle.gcl_reader.specs.Grammar.{file_of}
use Rattle.gcl_reader.specs.Fitting.{IsFitting}
use Rattle.gcl_reader.specs.declared.word.Word.{Word}
use Rattle.gcl_reader.specs.declared.word.Word.TheVariants as word
use Rattle.gcl_reader.specs.declared.word.Statement.{Statement}
use Rattle.gcl_reader.specs.declared.file.What.{What}
use Rattle.gcl_reader.specs.declared.file.What.TheVariants as what
use Rattle.gcl_reader.specs.declared.file.Arg.{Arg}
use Rattle.gcl_reader.specs.declared.file.Command.{Command}

-- A text says a value: a name is its own text, and a number may have many.
abbrev pub SaysValue : List ℕ → What → Type 0
SaysValue text (what.Name name) = name ≡ text
SaysValue text (what.Number n) = fix_of text ≡ Ok n

-- The token stands there.
abbrev pub StandsAt : Token → ℕ → ℕ → ℕ → Type 0
StandsAt t line at len = (line ≡ t.line) × (at ≡ t.at) × (len ≡ length t.text)

-- A token says an argument, which stands where the token does.
abbrev pub Says : Token → Arg → Type 0
Says t a = SaysValue t.text a.what × StandsAt t a.line a.at a.len

-- The statement of a word, where the word asks for a proof.
abbrev pub statement_in : Word → Option Statement
statement_in (word.Prove s) = Some s
statement_in w = None

-- What stands behind a command's word: a token for each argument; for a proof they stand in braces, behind the statement.
abbrev pub SpellsRest : Option Statement → List Token → List Arg → Type 0
SpellsRest None tokens args = AllZip Says tokens args
SpellsRest (Some s) tokens args =
    (open_brace : Token) × (name : Token) × (inner : List Token) × (close_brace : Token)
    × (tokens ≡ open_brace ∷ name ∷ (inner ++ close_brace ∷ []))
    × (open_brace.text ≡ codes "{") × (name.text ≡ statement_text s) × (close_brace.text ≡ codes "}")
    × AllZip Says inner args

-- The tokens of one command, which stands where its word does.
abbrev pub SpellsCommand : List Token → Command → Type 0
SpellsCommand tokens c =
    (first : Token) × (rest : List Token) × (tokens ≡ first ∷ rest)
    × (first.text ≡ text_of c.word) × StandsAt first c.line c.at c.len × SpellsRest (statement_in c.word) rest c.args

-- The tokens are those of the commands, one behind the other.
abbrev pub Spells : List Token → List Command → Type 0
Spells tokens [] = tokens ≡ []
Spells tokens (c ∷ cs) =
    (front : List Token) × (rest : List Token) × (tokens ≡ front ++ rest) × SpellsCommand front c × Spells rest cs

-- Fitting commands are read from each file whose tokens spell them.
abbrev pub SpelledIsRead : Type 0
SpelledIsRead = (bytes : List ℕ) (commands : List Command) →
    Spells (tokens bytes) commands → IsFitting commands → file_of bytes ≡ Ok commands

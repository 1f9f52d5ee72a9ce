-- The commands of a file, or the refusal of the first token that offends: a grammar over the list of tokens.
use Rattle.std.specs.Prelude.{◌≡◌, ℕ, zero, suc, List, [], ◌∷◌, length, Option, Some, None, Result, Ok, Err, if◌then◌else◌, ◌==◌, ℤ, codes}
use Rattle.std.specs.Str.{bytes_eq}
use Rattle.gcl_reader.specs.Tokens.{Token, Lexed, lexed}
use Rattle.fixed_point.specs.Decimal.{fix_of}
use Rattle.fixed_point.specs.declared.fault.NumberFault.{NumberFault}
use Rattle.fixed_point.specs.declared.fault.NumberFault.TheVariants as number
use Rattle.gcl_reader.specs.Name.{is_name}
use Rattle.gcl_reader.specs.Span.{refusal}
use Rattle.gcl_reader.specs.Table.{head_of, statement_of, parameters_of, in_range}
use Rattle.gcl_reader.specs.declared.word.Word.{Word}
use Rattle.gcl_reader.specs.declared.word.Word.TheVariants as word
use Rattle.gcl_reader.specs.declared.word.Statement.{Statement}
use Rattle.gcl_reader.specs.declared.word.Head.{Head}
use Rattle.gcl_reader.specs.declared.word.Head.TheVariants as head
use Rattle.gcl_reader.specs.declared.word.Parameter.{Parameter}
use Rattle.gcl_reader.specs.declared.word.Parameter.TheVariants as parameter
use Rattle.gcl_reader.specs.declared.word.Range.{Range}
use Rattle.gcl_reader.specs.declared.limits.TheConstants.{MOST_COMMANDS}
use Rattle.gcl_reader.specs.declared.span.Span.{Span}
use Rattle.gcl_reader.specs.declared.refusal.Kind.{Kind}
use Rattle.gcl_reader.specs.declared.refusal.Kind.TheVariants as kind
use Rattle.gcl_reader.specs.declared.refusal.Refusal.{Refusal}
use Rattle.gcl_reader.specs.declared.refusal.GclFault.{GclFault}
use Rattle.gcl_reader.specs.declared.refusal.GclFault.TheVariants as fault
use Rattle.gcl_reader.specs.declared.file.What.{What}
use Rattle.gcl_reader.specs.declared.file.What.TheVariants as what
use Rattle.gcl_reader.specs.declared.file.Arg.{Arg}
use Rattle.gcl_reader.specs.declared.file.Command.{Command}

-- A step, and what follows where it does not refuse.
infixl 10 ◌>>=◌
abbrev pub ◌>>=◌ : {A B : Type 0} → Result A Refusal → (A → Result B Refusal) → Result B Refusal
(Ok x) >>= f = f x
(Err e) >>= f = Err e

-- A fault is the refusal that reading gives, or want of memory.
abbrev pub Fails : {Y : Type 0} → GclFault → Result Y Refusal → Type 0
Fails fault.OutOfMemory read = Unit {0}
Fails (fault.Refused r) read = read ≡ Err r

-- What a function returned, as a view shows it, is what reading gives, unless memory ran out.
abbrev pub Gives : {X Y : Type 0} → (X → Y) → Result X GclFault → Result Y Refusal → Type 0
Gives view (Ok x) read = read ≡ Ok (view x)
Gives view (Err e) read = Fails e read

-- Where a token stands.
abbrev pub span_of_token : Token → Span
span_of_token t = record { line = t.line; at = t.at; len = length t.text }

-- Where a file ends.
abbrev pub span_of_end : Lexed → Span
span_of_end x = record { line = x.end_line; at = x.end_at; len = 0 }

-- The refusal of a token.
abbrev pub refused : Kind → Token → Refusal
refused k t = refusal k (span_of_token t)

-- The next token: it may be missing, or be no text.
unfoldable pub token_at : Lexed → Result (Token × Lexed) Refusal
token_at x = elim x.tokens [
  | [] ↦ Err (refusal kind.EndInside (span_of_end x))
  | ◌∷◌ t ts ↦ if length t.text == 0 then Err (refused kind.NotText t) else Ok (t, record x { tokens = ts })
]

-- The argument at a token.
abbrev pub arg_with : What → Token → Arg
arg_with w t = record { line = t.line; at = t.at; len = length t.text; what = w }

-- A number for a parameter: first its form is judged, then its decimals, its size and its range.
abbrev pub number_in : Range → Token → Result ℤ NumberFault → Result Arg Refusal
number_in r t (Ok n) = if in_range r n then Ok (arg_with (what.Number n) t) else Err (refused kind.BadNumber t)
number_in r t (Err number.NotNumber) = Err (refused kind.WantsNumber t)
number_in r t (Err number.TooLong) = Err (refused kind.BadNumber t)
number_in r t (Err number.TooFar) = Err (refused kind.BadNumber t)

-- A name for a parameter.
abbrev pub name_in : Token → Result Arg Refusal
name_in t = if is_name t.text then Ok (arg_with (what.Name t.text) t) else Err (refused kind.WantsName t)

-- What a token says for a parameter.
abbrev pub arg_of : Parameter → Token → Result Arg Refusal
arg_of (parameter.Number r) t = number_in r t (fix_of t.text)
arg_of parameter.NewPoint t = name_in t
arg_of parameter.NewLine t = name_in t
arg_of parameter.NewCircle t = name_in t
arg_of parameter.Point t = name_in t
arg_of parameter.Line t = name_in t
arg_of parameter.Circle t = name_in t
arg_of parameter.Curve t = name_in t
arg_of parameter.OtherCurve t = name_in t

-- The next token, for a parameter.
unfoldable pub arg_at : Parameter → Lexed → Result (Arg × Lexed) Refusal
arg_at p x = do
  t ← token_at x
  a ← arg_of p t.0
  Ok (a, t.1)

-- The next tokens, one for each parameter.
unfoldable pub args_at : List Parameter → Lexed → Result (List Arg × Lexed) Refusal
args_at [] x = Ok ([], x)
args_at (p ∷ ps) x = do
  a ← arg_at p x
  others ← args_at ps a.1
  Ok (a.0 ∷ others.0, others.1)

-- The next token is this brace.
unfoldable pub brace_at : List ℕ → Lexed → Result Lexed Refusal
brace_at brace x = do
  t ← token_at x
  if bytes_eq t.0.text brace then Ok t.1 else Err (refused kind.WantsBrace t.0)

-- The next token names a statement.
abbrev pub statement_or : Token → Option Statement → Result Statement Refusal
statement_or t (Some s) = Ok s
statement_or t None = Err (refused kind.UnknownStatement t)

unfoldable pub statement_at : Lexed → Result (Statement × Lexed) Refusal
statement_at x = do
  t ← token_at x
  s ← statement_or t.0 (statement_of t.0.text)
  Ok (s, t.1)

-- The whole word of a command: that of a proof has its statement behind a brace.
unfoldable pub word_at : Head → Lexed → Result (Word × Lexed) Refusal
word_at (head.Word w) x = Ok (w, x)
word_at head.Prove x = do
  after ← brace_at (codes "{") x
  s ← statement_at after
  Ok (word.Prove s.0, s.1)

-- The brace behind the points of a statement.
unfoldable pub close_at : Head → Lexed → Result Lexed Refusal
close_at (head.Word w) x = Ok x
close_at head.Prove x = brace_at (codes "}") x

-- The command that begins with the token t.
unfoldable pub command_at : Token → Head → Lexed → Result (Command × Lexed) Refusal
command_at t h x = do
  w ← word_at h x
  a ← args_at (parameters_of w.0) w.1
  after ← close_at h a.1
  Ok (record { word = w.0; line = t.line; at = t.at; len = length t.text; args = a.0 }, after)

-- The next token begins a command, or there is none.
abbrev pub head_or : Token → Lexed → Option Head → Result (Option (Token × Head × Lexed)) Refusal
head_or t x (Some h) = Ok (Some (t, h, x))
head_or t x None = Err (refused kind.UnknownCommand t)

unfoldable pub first_at : Lexed → Result (Option (Token × Head × Lexed)) Refusal
first_at x = elim x.tokens [
  | [] ↦ Ok None
  | ◌∷◌ t ts ↦ if length t.text == 0 then Err (refused kind.NotText t) else head_or t (record x { tokens = ts }) (head_of t.text)
]

-- All commands up to the end of the file, at most n of them.
unfoldable pub commands_at : ℕ → Lexed → Result (List Command) Refusal
commands_at zero x = first_at x >>= λ f. elim f [
  | None ↦ Ok []
  | Some first ↦ Err (refused kind.TooManyCommands first.0)
]
commands_at (suc n) x = first_at x >>= λ f. elim f [
  | None ↦ Ok []
  | Some first ↦ command_at first.0 first.1 first.2 >>= λ c. commands_at n c.1 >>= λ others. Ok (c.0 ∷ others)
]

-- What a file of these bytes is read as.
abbrev pub file_of : List ℕ → Result (List Command) Refusal
file_of bytes = commands_at MOST_COMMANDS (lexed bytes)

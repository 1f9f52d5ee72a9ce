-- The parts of a command are parsers.
use Rattle.std.proofs.Common.{◌≡◌, ℕ, List, [], ◌∷◌, length, Result, Ok, Err, Option, Some, None, Bool, true, false, ◌==◌, refl, ℤ, pos, codes}
use Rattle.std.specs.Prelude.{if◌then◌else◌}
use Rattle.std.specs.Str.{bytes_eq}
use Rattle.std.proofs.lemmas.Slice.Eq.{bytes_eq-Decides}
use Rattle.fixed_point.specs.Decimal.{fix_of, value_from}
use Rattle.fixed_point.specs.declared.fault.NumberFault.{NumberFault}
use Rattle.fixed_point.specs.declared.fault.NumberFault.TheVariants as number
use Rattle.gcl_reader.specs.Tokens.{Token, Lexed}
use Rattle.gcl_reader.specs.Name.{is_name}
use Rattle.gcl_reader.specs.Table.{statement_of, parameters_of, in_range}
use Rattle.gcl_reader.specs.Grammar.{◌>>=◌, refused, token_at, arg_with, number_in, arg_of, arg_at, args_at, brace_at, statement_or, statement_at, word_at, close_at, command_at}
use Rattle.gcl_reader.specs.declared.word.Word.{Word}
use Rattle.gcl_reader.specs.declared.word.Word.TheVariants as word
use Rattle.gcl_reader.specs.declared.word.Statement.{Statement}
use Rattle.gcl_reader.specs.declared.word.Statement.TheVariants as statement
use Rattle.gcl_reader.specs.declared.word.Head.{Head}
use Rattle.gcl_reader.specs.declared.word.Head.TheVariants as head
use Rattle.gcl_reader.specs.declared.word.Parameter.{Parameter}
use Rattle.gcl_reader.specs.declared.word.Parameter.TheVariants as parameter
use Rattle.gcl_reader.specs.declared.word.Range.{Range}
use Rattle.gcl_reader.specs.declared.word.Range.TheVariants as range
use Rattle.gcl_reader.specs.declared.refusal.Kind.TheVariants as kind
use Rattle.gcl_reader.specs.declared.refusal.Refusal.{Refusal}
use Rattle.gcl_reader.specs.declared.file.What.TheVariants as what
use Rattle.gcl_reader.specs.declared.file.Arg.{Arg}
use Rattle.gcl_reader.specs.declared.file.Command.{Command}
use Rattle.gcl_reader.proofs.Words.{statement-found}
use Rattle.first_refusal.proofs.Reading.{not-err, IsOf, refused-of, read_as, IsParser, parses-as, is-pure, bound, is-bound}
use Rattle.first_refusal.proofs.OneToken.{test-faults, Faults, taking, is-taking}

-- A token of a text, wherever it stands.
abbrev token : List ℕ → Token
token text = record { line = 0; at = 0; text = text }

-- ---- arguments
number-faults : (g : Range) (t : Token) (f : Result ℤ NumberFault) (r : Refusal) → number_in g t f ≡ Err r → IsOf t r
number-faults g t (Ok n) r h = test-faults (arg_with (what.Number n) t) kind.BadNumber t (in_range g n) r h
number-faults g t (Err number.NotNumber) r h = refused-of t h
number-faults g t (Err number.TooLong) r h = refused-of t h
number-faults g t (Err number.TooFar) r h = refused-of t h

arg-faults : (p : Parameter) → Faults (arg_of p)
arg-faults (parameter.Number g) t r h = number-faults g t (fix_of t.text) r h
arg-faults p t r h = test-faults (arg_with (what.Name t.text) t) kind.WantsName t (is_name t.text) r h

-- Every range has the number one, and A is a name.
one : Arg
one = arg_with (what.Number (pos 1000000)) (token (codes "1"))

one-fits : (g : Range) → number_in g (token (codes "1")) (fix_of (codes "1")) ≡ Ok one
unfolding one value_from
one-fits range.Any = refl
one-fits range.Byte = refl
one-fits range.Picture = refl

is-arg : (p : Parameter) → IsParser (arg_at p)
unfolding arg_at is_name
is-arg (parameter.Number g) =
    let p = parameter.Number g in is-taking (arg_of p) (arg-faults p) (token (codes "1")) one refl (one-fits g)
is-arg p =
    let t = token (codes "A") in is-taking (arg_of p) (arg-faults p) t (arg_with (what.Name t.text) t) refl refl

is-args : (ps : List Parameter) → IsParser (args_at ps)
unfolding args_at
is-args [] = is-pure []
is-args (p ∷ ps) =
    is-bound (arg_at p) (λ a. bound (args_at ps) (λ others. read_as (a ∷ others))) (is-arg p)
    (λ a. is-bound (args_at ps) (λ others. read_as (a ∷ others)) (is-args ps) (λ others. is-pure (a ∷ others)))

-- ---- a brace, behind which c is known
module _ {C : Type 0} (brace : List ℕ) (c : C) where
  abbrev behind_brace : Lexed → Result (C × Lexed) Refusal
  behind_brace x = brace_at brace x >>= read_as c

  -- the test of its token
  abbrev braced : Token → Result C Refusal
  braced t = if bytes_eq t.text brace then Ok c else Err (refused kind.WantsBrace t)

  brace-taken : (x : Lexed) → taking braced x ≡ behind_brace x
  unfolding brace_at
  brace-taken x = by (token_at x)
    where
      at : (t : Token) (y : Lexed) (b : Bool) →
          ((if b then Ok c else Err (refused kind.WantsBrace t)) >>= λ d. read_as d y)
          ≡ ((if b then Ok y else Err (refused kind.WantsBrace t)) >>= read_as c)
      at t y true = refl
      at t y false = refl

      by : (p : Result (Token × Lexed) Refusal) →
          (p >>= λ t. braced t.0 >>= λ d. read_as d t.1)
          ≡ ((p >>= λ t. if bytes_eq t.0.text brace then Ok t.1 else Err (refused kind.WantsBrace t.0)) >>= read_as c)
      by (Ok t) = at t.0 t.1 (bytes_eq t.0.text brace)
      by (Err r) = refl

  is-brace : (length brace == 0) ≡ false → IsParser behind_brace
  is-brace some =
      let is : braced (token brace) ≡ Ok c = rw ((bytes_eq-Decides brace brace).1 refl) refl in
      parses-as (taking braced) behind_brace brace-taken
      (is-taking braced (λ t r h. test-faults c kind.WantsBrace t (bytes_eq t.text brace) r h) (token brace) c some is)

-- ---- a statement
statement-faults : (t : Token) (o : Option Statement) (r : Refusal) → statement_or t o ≡ Err r → IsOf t r
statement-faults t (Some s) r h = absurd (not-err h)
statement-faults t None r h = refused-of t h

is-statement : IsParser statement_at
unfolding statement_at
is-statement =
    let t : Token = token (codes "identical") in
    let found : statement_or t (statement_of t.text) ≡ Ok statement.Identical = rw (statement-found statement.Identical) refl in
    is-taking (λ u. statement_or u (statement_of u.text)) (λ u r h. statement-faults u (statement_of u.text) r h)
    t statement.Identical refl found

-- ---- a command
-- the brace of a proof, and what stands behind it
abbrev opened : Lexed → Result (List ℕ × Lexed) Refusal
opened = behind_brace (codes "{") (codes "{")

abbrev proved : Lexed → Result (Word × Lexed) Refusal
proved = bound statement_at (λ s. read_as (word.Prove s))

opened-word : (x : Lexed) → bound opened (λ _. proved) x ≡ word_at head.Prove x
unfolding word_at
opened-word x = by (brace_at (codes "{") x)
  where
    by : (p : Result Lexed Refusal) → ((p >>= read_as (codes "{")) >>= λ a. proved a.1) ≡ (p >>= proved)
    by (Ok y) = refl
    by (Err r) = refl

is-word : (h : Head) → IsParser (word_at h)
unfolding word_at
is-word (head.Word w) = is-pure w
is-word head.Prove =
    parses-as (bound opened (λ _. proved)) (word_at head.Prove) opened-word
    (is-bound opened (λ _. proved) (is-brace (codes "{") (codes "{") refl)
    (λ _. is-bound statement_at (λ s. read_as (word.Prove s)) is-statement (λ s. is-pure (word.Prove s))))

abbrev closed : {C : Type 0} → Head → C → Lexed → Result (C × Lexed) Refusal
closed h c x = close_at h x >>= read_as c

is-closed : {C : Type 0} (h : Head) (c : C) → IsParser (closed h c)
unfolding close_at
is-closed (head.Word w) c = is-pure c
is-closed head.Prove c = is-brace (codes "}") c refl

pub is-command : (t : Token) (h : Head) → IsParser (command_at t h)
unfolding command_at
is-command t h =
    is-bound (word_at h) (λ w. bound (args_at (parameters_of w)) (λ args. closed h (whole w args))) (is-word h)
    (λ w. is-bound (args_at (parameters_of w)) (λ args. closed h (whole w args)) (is-args (parameters_of w)) (λ args. is-closed h (whole w args)))
  where
    whole : Word → List Arg → Command
    whole w args = record { word = w; line = t.line; at = t.at; len = length t.text; args = args }

-- What the grammar reads is spelled by the tokens, and fits the table.
use Rattle.std.proofs.Common.{◌≡◌, ℕ, ◌≤◌, zero, suc, List, [], ◌∷◌, ◌++◌, length, Result, Ok, Err, Option, Some, None, Bool, true, false, not, ◌==◌, nat_lt, refl, sym, ap, subst, ◌∙◌, arith, ℤ, append_assoc, codes}
use Rattle.std.specs.Prelude.{unsigned_abs}
use Rattle.std.specs.Str.{bytes_eq}
use Rattle.std.specs.List.{AllZip, AllByRecursion}
use Rattle.std.proofs.lemmas.Bool.Decides.{nat_tests}
use Rattle.std.proofs.lemmas.Slice.Eq.{bytes_eq-Decides}
use Rattle.fixed_point.specs.Decimal.{fix_of, signed, unsigned_of, point_in, whole_at, decimals_at, is_negative, is_number, millionths}
use Rattle.fixed_point.specs.declared.limits.TheConstants.{MOST_DECIMALS, MOST_MILLIONTHS}
use Rattle.fixed_point.specs.declared.fault.NumberFault.{NumberFault}
use Rattle.fixed_point.specs.declared.fault.NumberFault.TheVariants as number
use Rattle.gcl_reader.specs.Tokens.{Token, Lexed, put}
use Rattle.gcl_reader.specs.Name.{is_name}
use Rattle.gcl_reader.specs.Table.{statement_text, head_of, statement_of, parameters_of, points_of, in_range}
use Rattle.gcl_reader.specs.Grammar.{◌>>=◌, refused, token_at, arg_with, number_in, arg_of, arg_at, args_at, brace_at, statement_at, statement_or, word_at, close_at, command_at, head_or, first_at, commands_at}
use Rattle.gcl_reader.specs.Fitting.{IsSize, FitsParameter, FitsTable}
use Rattle.gcl_reader.specs.Spelling.{Says, SpellsRest, SpellsCommand, Spells}
use Rattle.gcl_reader.specs.declared.word.Word.{Word}
use Rattle.gcl_reader.specs.declared.word.Word.TheVariants as word
use Rattle.gcl_reader.specs.declared.word.Statement.{Statement}
use Rattle.gcl_reader.specs.declared.word.Head.{Head}
use Rattle.gcl_reader.specs.declared.word.Head.TheVariants as head
use Rattle.gcl_reader.specs.declared.word.Parameter.{Parameter}
use Rattle.gcl_reader.specs.declared.word.Parameter.TheVariants as parameter
use Rattle.gcl_reader.specs.declared.word.Range.{Range}
use Rattle.gcl_reader.specs.declared.refusal.Kind.TheVariants as kind
use Rattle.gcl_reader.specs.declared.refusal.Refusal.{Refusal}
use Rattle.gcl_reader.specs.declared.file.What.TheVariants as what
use Rattle.gcl_reader.specs.declared.file.Arg.{Arg}
use Rattle.gcl_reader.specs.declared.file.Command.{Command}
use Rattle.gcl_reader.proofs.Bind.{bind-ok, ok-is, where-true, where-false}
use Rattle.gcl_reader.proofs.Words.{IsHead, head-is, statement-is}

-- tokens in front of what is ahead of their end
abbrev pub puts : List Token → Lexed → Lexed
puts ts y = record y { tokens = ts ++ y.tokens }

abbrev pub FitsArg : Parameter → Arg → Type 0
FitsArg p a = FitsParameter p a.what

-- A number that is read is not too large.

signed-size : (b : Bool) (m : ℕ) → unsigned_abs (signed b m) ≤ m
signed-size true zero = omega arith
signed-size true (suc m) = omega arith
signed-size false m = omega arith

not-less : (a b : ℕ) → nat_lt a b ≡ false → b ≤ a
not-less a b h = grind (arith, nat_tests)

number-size : (text : List ℕ) (n : ℤ) → fix_of text ≡ Ok n → IsSize n
number-size text n h =
    let body = unsigned_of text in
    let whole = whole_at (point_in body) body in
    let decimals = decimals_at (point_in body) body in
    let a = where-false (not (is_number whole decimals)) _ _ n h in
    let b = where-false (nat_lt MOST_DECIMALS (length decimals)) _ _ n a.1 in
    let c = where-false (nat_lt MOST_MILLIONTHS (millionths whole decimals)) _ _ n b.1 in
    let low = not-less MOST_MILLIONTHS (millionths whole decimals) c.0 in
    let most = signed-size (is_negative text) (millionths whole decimals) in
    rw (← ok-is c.1) (omega (arith, low, most))

-- One token.

token-in : (tokens : List Token) (l a : ℕ) (t : Token) (y : Lexed) → token_at (record { tokens = tokens; end_line = l; end_at = a }) ≡ Ok (t, y) →
    record { tokens = tokens; end_line = l; end_at = a } ≡ put t y
unfolding token_at
token-in [] l a t y h = cc
token-in (u ∷ us) l a t y h =
    let p = where-false (length u.text == 0) (Ok (u, record { tokens = us; end_line = l; end_at = a })) (refused kind.NotText u) (t, y) h in
    ap (λ (q : Token × Lexed). put q.0 q.1) (ok-is p.1)

pub token-taken : (x : Lexed) (t : Token) (y : Lexed) → token_at x ≡ Ok (t, y) → x ≡ put t y
token-taken x t y h = token-in x.tokens x.end_line x.end_at t y h

-- One argument.

number-says : (r : Range) (t : Token) (f : Result ℤ NumberFault) (a : Arg) → fix_of t.text ≡ f → number_in r t f ≡ Ok a → Says t a × FitsArg (parameter.Number r) a
number-says r t (Ok n) a e h =
    let p = where-true (in_range r n) (Ok (arg_with (what.Number n) t)) (refused kind.BadNumber t) a h in
    subst (λ (q : Arg). Says t q × FitsArg (parameter.Number r) q) (ok-is p.1) ((e, (refl, refl, refl)), (number-size t.text n e, p.0))
number-says r t (Err number.NotNumber) a e h = cc
number-says r t (Err number.TooLong) a e h = cc
number-says r t (Err number.TooFar) a e h = cc

pub arg-says : (p : Parameter) (t : Token) (a : Arg) → arg_of p t ≡ Ok a → Says t a × FitsArg p a
arg-says (parameter.Number r) t a h = number-says r t (fix_of t.text) a refl h
arg-says p t a h =
    let q = where-true (is_name t.text) (Ok (arg_with (what.Name t.text) t)) (refused kind.WantsName t) a h in
    subst (λ (b : Arg). Says t b × FitsArg p b) (ok-is q.1) ((refl, (refl, refl, refl)), q.0)

arg-taken : (p : Parameter) (x : Lexed) (a : Arg) (y : Lexed) → arg_at p x ≡ Ok (a, y) → (t : Token) × (x ≡ put t y) × Says t a × FitsArg p a
unfolding arg_at
arg-taken p x a y h =
    let b = bind-ok (token_at x) _ _ h in
    let c = bind-ok (arg_of p b.0.0) _ _ b.2 in
    let says = arg-says p b.0.0 c.0 c.1 in
    subst (λ (q : Arg × Lexed). (t : Token) × (x ≡ put t q.1) × Says t q.0 × FitsArg p q.0) (ok-is c.2) (b.0.0, token-taken x b.0.0 b.0.1 b.1, says.0, says.1)

abbrev ArgsIn : List Parameter → Lexed → List Arg → Lexed → Type 0
ArgsIn ps x args y = (ts : List Token) × (x ≡ puts ts y) × AllZip Says ts args × AllZip FitsArg ps args

args-taken : (ps : List Parameter) (x : Lexed) (args : List Arg) (y : Lexed) → args_at ps x ≡ Ok (args, y) → ArgsIn ps x args y
unfolding args_at
args-taken [] x args y h = subst (λ (q : List Arg × Lexed). ArgsIn [] x q.0 q.1) (ok-is h) ([], refl, tt, tt)
args-taken (p ∷ ps) x args y h =
    let b = bind-ok (arg_at p x) _ _ h in
    let c = bind-ok (args_at ps b.0.1) _ _ b.2 in
    let one = arg-taken p x b.0.0 b.0.1 b.1 in
    let more = args-taken ps b.0.1 c.0.0 c.0.1 c.1 in
    subst (λ (q : List Arg × Lexed). ArgsIn (p ∷ ps) x q.0 q.1) (ok-is c.2) (one.0 ∷ more.0, one.1 ∙ ap (put one.0) more.1, (one.2, more.2), (one.3, more.3))

-- A brace, and a statement's name.

brace-taken : (brace : List ℕ) (x y : Lexed) → brace_at brace x ≡ Ok y → (t : Token) × (x ≡ put t y) × (t.text ≡ brace)
unfolding brace_at
brace-taken brace x y h =
    let p = bind-ok (token_at x) _ _ h in
    let q = where-true (bytes_eq p.0.0.text brace) (Ok p.0.1) (refused kind.WantsBrace p.0.0) y p.2 in
    (p.0.0, token-taken x p.0.0 p.0.1 p.1 ∙ ap (put p.0.0) (ok-is q.1), (bytes_eq-Decides p.0.0.text brace).0 q.0)

statement-named : (t : Token) (o : Option Statement) (s : Statement) → statement_or t o ≡ Ok s → o ≡ Some s
statement-named t (Some r) s h = cc
statement-named t None s h = cc

statement-taken : (x : Lexed) (s : Statement) (y : Lexed) → statement_at x ≡ Ok (s, y) → (t : Token) × (x ≡ put t y) × (t.text ≡ statement_text s)
unfolding statement_at
statement-taken x s y h =
    let p = bind-ok (token_at x) _ _ h in
    let q = bind-ok (statement_or p.0.0 (statement_of p.0.0.text)) _ _ p.2 in
    let found = statement-is p.0.0.text q.0 (statement-named p.0.0 (statement_of p.0.0.text) q.0 q.1) in
    subst (λ (r : Statement × Lexed). (t : Token) × (x ≡ put t r.1) × (t.text ≡ statement_text r.0)) (ok-is q.2)
    (p.0.0, token-taken x p.0.0 p.0.1 p.1, found)

-- One command.

abbrev pub CommandIn : Token → Lexed → Command → Lexed → Type 0
CommandIn t x c y = (front : List Token) × (put t x ≡ puts front y) × SpellsCommand front c × FitsTable c

command_of : Token → Word → List Arg → Command
command_of t w args = record { word = w; line = t.line; at = t.at; len = length t.text; args = args }

alone : (t : Token) (w : Word) (x : Lexed) (args : List Arg) (y : Lexed) → IsHead t.text (head.Word w) → ArgsIn (parameters_of w) x args y → CommandIn t x (command_of t w args) y
unfolding command_of
alone t w x args y is g =
    (t ∷ g.0, ap (put t) g.1, (t, g.0, refl, is.0, (refl, refl, refl), subst (λ (s : Option Statement). SpellsRest s g.0 args) (sym is.1) g.2), (is.2, g.3))

in-braces : (t open_brace name close_brace : Token) (s : Statement) (x inner after : Lexed) (args : List Arg) (y : Lexed) → IsHead t.text head.Prove →
    x ≡ put open_brace (put name inner) → open_brace.text ≡ codes "{" → name.text ≡ statement_text s → ArgsIn (points_of s) inner args after → after ≡ put close_brace y → close_brace.text ≡ codes "}" →
    CommandIn t x (command_of t (word.Prove s) args) y
unfolding command_of
in-braces t o n z s x inner after args y is front open_text name_text g behind close_text =
    let rest = g.0 ++ z ∷ [] in
    let joined : puts g.0 (put z y) ≡ puts rest y = ap (λ (ts : List Token). record y { tokens = ts }) (sym (append_assoc g.0 (z ∷ []) y.tokens)) in
    let all : put t x ≡ puts (t ∷ o ∷ n ∷ rest) y = ap (put t) (front ∙ ap (λ (l : Lexed). put o (put n l)) (g.1 ∙ ap (puts g.0) behind ∙ joined)) in (
      t ∷ o ∷ n ∷ rest,
      all,
      (t, o ∷ n ∷ rest, refl, is, (refl, refl, refl), (o, n, g.0, z, refl, open_text, name_text, close_text, g.2)),
      (tt, g.3),
    )

abbrev read_as : Command → Lexed → Result (Command × Lexed) Refusal
read_as c y = Ok (c, y)

abbrev Behind : Token → Word × Lexed → Command → Lexed → Type 0
Behind t w c y = (args_at (parameters_of w.0) w.1 >>= λ a. close_at head.Prove a.1 >>= λ after. read_as (command_of t w.0 a.0) after) ≡ Ok (c, y)

-- The braces, the statement and the points of a proof, one behind the other.

closed-by : (t : Token) (x opened : Lexed) (named : Statement × Lexed) (args : List Arg × Lexed) (closed : Lexed) (c : Command) (y : Lexed) → IsHead t.text head.Prove →
    brace_at (codes "{") x ≡ Ok opened → statement_at opened ≡ Ok named → args_at (points_of named.0) named.1 ≡ Ok args → brace_at (codes "}") args.1 ≡ Ok closed →
    ◌≡◌ {A = Command × Lexed} (command_of t (word.Prove named.0) args.0, closed) (c, y) → CommandIn t x c y
closed-by t x opened named args closed c y is e_open e_name e_args e_close e =
    let o = brace-taken (codes "{") x opened e_open in
    let n = statement-taken opened named.0 named.1 e_name in
    let z = brace-taken (codes "}") args.1 closed e_close in
    subst (λ (q : Command × Lexed). CommandIn t x q.0 q.1) e
    (in-braces t o.0 n.0 z.0 named.0 x named.1 args.1 args.0 closed is (o.1 ∙ ap (put o.0) n.1) o.2 n.2 (args-taken (points_of named.0) named.1 args.0 args.1 e_args) z.1 z.2)

named-by : (t : Token) (x opened : Lexed) (named : Statement × Lexed) (c : Command) (y : Lexed) → IsHead t.text head.Prove →
    brace_at (codes "{") x ≡ Ok opened → statement_at opened ≡ Ok named → Behind t (word.Prove named.0, named.1) c y → CommandIn t x c y
unfolding close_at
named-by t x opened named c y is e_open e_name rest =
    let args = bind-ok (args_at (points_of named.0) named.1) _ _ rest in
    let closed = bind-ok (close_at head.Prove args.0.1) _ _ args.2 in
    closed-by t x opened named args.0 closed.0 c y is e_open e_name args.1 closed.1 (ok-is closed.2)

opened-by : (t : Token) (x : Lexed) (w : Word × Lexed) (c : Command) (y : Lexed) → IsHead t.text head.Prove → word_at head.Prove x ≡ Ok w → Behind t w c y → CommandIn t x c y
unfolding word_at
opened-by t x w c y is e rest =
    let opened = bind-ok (brace_at (codes "{") x) _ _ e in
    let named = bind-ok (statement_at opened.0) _ _ opened.2 in
    named-by t x opened.0 named.0 c y is opened.1 named.1 (subst (λ (q : Word × Lexed). Behind t q c y) (sym (ok-is named.2)) rest)

pub command-taken : (t : Token) (h : Head) (x : Lexed) (c : Command) (y : Lexed) → IsHead t.text h → command_at t h x ≡ Ok (c, y) → CommandIn t x c y
unfolding command_at word_at close_at command_of
command-taken t (head.Word w) x c y is e =
    let p = bind-ok (args_at (parameters_of w) x) _ _ e in
    subst (λ (q : Command × Lexed). CommandIn t x q.0 q.1) (ok-is p.2) (alone t w x p.0.0 p.0.1 is (args-taken (parameters_of w) x p.0.0 p.0.1 p.1))
command-taken t head.Prove x c y is e =
    let w = bind-ok (word_at head.Prove x) _ _ e in
    opened-by t x w.0 c y is w.1 w.2

-- Commands.

abbrev First : Type 0
First = Token × Head × Lexed

abbrev FirstIn : Lexed → Option First → Type 0
FirstIn x None = x.tokens ≡ []
FirstIn x (Some f) = (x ≡ put f.0 f.2) × IsHead f.0.text f.1

head-found : (t : Token) (y : Lexed) (o : Option Head) (f : Option First) → head_of t.text ≡ o → head_or t y o ≡ Ok f → FirstIn (put t y) f
head-found t y (Some h) f e k = subst (λ (q : Option First). FirstIn (put t y) q) (ok-is k) (refl, head-is t.text h e)
head-found t y None f e k = cc

first-in : (tokens : List Token) (l a : ℕ) (f : Option First) → first_at (record { tokens = tokens; end_line = l; end_at = a }) ≡ Ok f → FirstIn (record { tokens = tokens; end_line = l; end_at = a }) f
unfolding first_at
first-in [] l a f h = subst (λ (q : Option First). FirstIn (record { tokens = []; end_line = l; end_at = a }) q) (ok-is h) refl
first-in (t ∷ ts) l a f h =
    let y : Lexed = record { tokens = ts; end_line = l; end_at = a } in
    let p = where-false (length t.text == 0) (head_or t y (head_of t.text)) (refused kind.NotText t) f h in
    head-found t y (head_of t.text) f refl p.1

abbrev pub CommandsIn : ℕ → Lexed → List Command → Type 0
CommandsIn n x cs = Spells x.tokens cs × (length cs ≤ n) × AllByRecursion FitsTable cs

nothing-in : (n : ℕ) (x : Lexed) (cs : List Command) → x.tokens ≡ [] → ◌≡◌ {A = Result (List Command) Refusal} (Ok []) (Ok cs) → CommandsIn n x cs
nothing-in n x cs e h = subst (λ (q : List Command). CommandsIn n x q) (ok-is h) (e, omega arith, tt)

abbrev NoMore : Option First → Result (List Command) Refusal
NoMore None = Ok []
NoMore (Some first) = Err (refused kind.TooManyCommands first.0)

none-allowed : (x : Lexed) (f : Option First) (cs : List Command) → FirstIn x f → NoMore f ≡ Ok cs → CommandsIn 0 x cs
none-allowed x None cs i h = nothing-in 0 x cs i h
none-allowed x (Some first) cs i h = cc

abbrev More : ℕ → Option First → Result (List Command) Refusal
More n None = Ok []
More n (Some first) = command_at first.0 first.1 first.2 >>= λ c. commands_at n c.1 >>= λ others. Ok (c.0 ∷ others)

one-more : (n : ℕ) (x : Lexed) (f : Option First) (cs : List Command) → ((y : Lexed) (others : List Command) → commands_at n y ≡ Ok others → CommandsIn n y others) →
    FirstIn x f → More n f ≡ Ok cs → CommandsIn (suc n) x cs
one-more n x None cs later i h = nothing-in (suc n) x cs i h
one-more n x (Some first) cs later i h =
    let c = bind-ok (command_at first.0 first.1 first.2) _ _ h in
    let others = bind-ok (commands_at n c.0.1) _ _ c.2 in
    let one = command-taken first.0 first.1 first.2 c.0.0 c.0.1 i.1 c.1 in
    let more = later c.0.1 others.0 others.1 in
    subst (λ (q : List Command). CommandsIn (suc n) x q) (ok-is others.2)
    ((one.0, c.0.1.tokens, ap (λ (l : Lexed). l.tokens) (i.0 ∙ one.1), one.2, more.0), omega arith, (one.3, more.2))

-- The commands that are read are spelled by the tokens ahead, at most as many as are allowed, and fit the table.
pub commands-in : (n : ℕ) (x : Lexed) (cs : List Command) → commands_at n x ≡ Ok cs → CommandsIn n x cs
unfolding commands_at
commands-in zero x cs h =
    let f = bind-ok (first_at x) _ _ h in
    none-allowed x f.0 cs (first-in x.tokens x.end_line x.end_at f.0 f.1) f.2
commands-in (suc n) x cs h =
    let f = bind-ok (first_at x) _ _ h in
    one-more n x f.0 cs (commands-in n) (first-in x.tokens x.end_line x.end_at f.0 f.1) f.2

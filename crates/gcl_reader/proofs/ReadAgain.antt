-- What the tokens spell, where it fits the table, is read by the grammar.
use Rattle.std.proofs.Common.{◌≡◌, ℕ, ◌≤◌, zero, suc, List, [], ◌∷◌, ◌++◌, length, Ok, Option, Some, None, true, false, ◌==◌, refl, sym, ap, subst, ◌∙◌, arith, ℤ, append_assoc, codes}
use Rattle.std.specs.Str.{bytes_eq}
use Rattle.std.specs.List.{AllZip, AllByRecursion}
use Rattle.std.proofs.lemmas.Bool.Decides.{nat_tests}
use Rattle.std.proofs.lemmas.Slice.Eq.{bytes_eq-Decides}
use Rattle.fixed_point.specs.Decimal.{fix_of}
use Rattle.gcl_reader.specs.Tokens.{Token, Lexed, put}
use Rattle.gcl_reader.specs.Name.{is_name}
use Rattle.gcl_reader.specs.Table.{statement_text, text_of, head_of, statement_of, parameters_of, points_of}
use Rattle.gcl_reader.specs.Grammar.{token_at, arg_with, number_in, arg_of, arg_at, args_at, brace_at, statement_at, word_at, close_at, command_at, first_at, commands_at}
use Rattle.gcl_reader.specs.Fitting.{IsWord, FitsParameter, FitsTable}
use Rattle.gcl_reader.specs.Spelling.{SaysValue, StandsAt, Says, statement_in, SpellsRest, Spells}
use Rattle.gcl_reader.specs.declared.word.Word.{Word}
use Rattle.gcl_reader.specs.declared.word.Word.TheVariants as word
use Rattle.gcl_reader.specs.declared.word.Side.TheVariants as side
use Rattle.gcl_reader.specs.declared.word.Statement.{Statement}
use Rattle.gcl_reader.specs.declared.word.Statement.TheVariants as statement
use Rattle.gcl_reader.specs.declared.word.Head.{Head}
use Rattle.gcl_reader.specs.declared.word.Head.TheVariants as head
use Rattle.gcl_reader.specs.declared.word.Parameter.{Parameter}
use Rattle.gcl_reader.specs.declared.word.Parameter.TheVariants as parameter
use Rattle.gcl_reader.specs.declared.file.What.TheVariants as what
use Rattle.gcl_reader.specs.declared.file.Arg.{Arg}
use Rattle.gcl_reader.specs.declared.file.Command.{Command}
use Rattle.gcl_reader.specs.declared.file.What.{What}
use Rattle.gcl_reader.proofs.Spelled.{puts, FitsArg}
use Rattle.gcl_reader.proofs.Words.{word-found, prove-found, statement-found}

abbrev IsText : Token → Type 0
IsText t = (length t.text == 0) ≡ false

some-text : (t : Token) (b : ℕ) (bs : List ℕ) → t.text ≡ b ∷ bs → IsText t
some-text t b bs e = rw e (grind (arith, nat_tests))

pub name-is-text : (text : List ℕ) → is_name text ≡ true → (length text == 0) ≡ false
unfolding is_name
name-is-text [] h = cc
name-is-text (b ∷ bs) h = grind (arith, nat_tests)

pub number-is-text : (text : List ℕ) (n : ℤ) → fix_of text ≡ Ok n → (length text == 0) ≡ false
number-is-text [] n h = cc
number-is-text (b ∷ bs) n h = grind (arith, nat_tests)

token-read : (t : Token) (y : Lexed) → IsText t → token_at (put t y) ≡ Ok (t, y)
unfolding token_at
token-read t y e = rw e refl

arg-is : (l a n : ℕ) (w : What) (t : Token) → StandsAt t l a n → ◌≡◌ {A = Arg} (arg_with w t) (record { line = l; at = a; len = n; what = w })
arg-is l a n w t s = rw (s.0, s.1, s.2) refl

value-read : (p : Parameter) (t : Token) (l a n : ℕ) (w : What) → SaysValue t.text w → StandsAt t l a n → FitsParameter p w →
    arg_of p t ≡ Ok (record { line = l; at = a; len = n; what = w })
value-read (parameter.Number r) t l a n (what.Number z) says stands fits = ap (number_in r t) says ∙ rw fits.1 (ap (λ (q : Arg). Ok q) (arg-is l a n (what.Number z) t stands))
value-read (parameter.Number r) t l a n (what.Name name) says stands fits = absurd fits
value-read p t l a n (what.Number z) says stands fits = absurd fits
value-read p t l a n (what.Name name) says stands fits =
    let named : is_name t.text ≡ true = ap is_name (sym says) ∙ fits in
    rw named (ap (λ (q : Arg). Ok q) (ap (λ (m : List ℕ). arg_with (what.Name m) t) (sym says) ∙ arg-is l a n (what.Name name) t stands))

value-is-text : (p : Parameter) (t : Token) (w : What) → SaysValue t.text w → FitsParameter p w → IsText t
value-is-text p t (what.Number z) says fits = number-is-text t.text z says
value-is-text (parameter.Number r) t (what.Name name) says fits = absurd fits
value-is-text p t (what.Name name) says fits = name-is-text t.text (ap is_name (sym says) ∙ fits)

arg-read : (p : Parameter) (t : Token) (a : Arg) (y : Lexed) → Says t a → FitsArg p a → arg_at p (put t y) ≡ Ok (a, y)
unfolding arg_at
arg-read p t a y says fits =
    let token = token-read t y (value-is-text p t a.what says.0 fits) in
    let value = value-read p t a.line a.at a.len a.what says.0 says.1 fits in
    rw (token, value) refl

args-read : (ps : List Parameter) (ts : List Token) (args : List Arg) (y : Lexed) → AllZip Says ts args → AllZip FitsArg ps args → args_at ps (puts ts y) ≡ Ok (args, y)
unfolding args_at
args-read [] [] [] y says fits = refl
args-read [] (t ∷ ts) [] y says fits = absurd says
args-read [] ts (a ∷ args) y says fits = absurd fits
args-read (p ∷ ps) ts [] y says fits = absurd fits
args-read (p ∷ ps) [] (a ∷ args) y says fits = absurd says
args-read (p ∷ ps) (t ∷ ts) (a ∷ args) y says fits =
    let one = arg-read p t a (puts ts y) says.0 fits.0 in
    let more = args-read ps ts args y says.1 fits.1 in
    rw (one, more) refl

brace-read : (b : ℕ) (t : Token) (y : Lexed) → t.text ≡ b ∷ [] → brace_at (b ∷ []) (put t y) ≡ Ok y
unfolding brace_at
brace-read b t y e =
    let token = token-read t y (some-text t b [] e) in
    let same : bytes_eq t.text (b ∷ []) ≡ true = (bytes_eq-Decides t.text (b ∷ [])).1 e in
    rw (token, same) refl

pub statement-is-text : (s : Statement) → (length (statement_text s) == 0) ≡ false
statement-is-text statement.Identical = refl
statement-is-text s = refl

statement-read : (s : Statement) (t : Token) (y : Lexed) → t.text ≡ statement_text s → statement_at (put t y) ≡ Ok (s, y)
unfolding statement_at
statement-read s t y e =
    let token = token-read t y (ap (λ (text : List ℕ). length text == 0) e ∙ statement-is-text s) in
    let found : statement_of t.text ≡ Some s = ap statement_of e ∙ statement-found s in
    rw (token, found) refl

command-is : (w : Word) (l a n : ℕ) (args : List Arg) (t : Token) → StandsAt t l a n →
    ◌≡◌ {A = Command} (record { word = w; line = t.line; at = t.at; len = length t.text; args = args }) (record { word = w; line = l; at = a; len = n; args = args })
command-is w l a n args t s = rw (s.0, s.1, s.2) refl

abbrev IsRead : Token → Lexed → Command → Lexed → Type 0
IsRead t x c y = (h : Head) × (head_of t.text ≡ Some h) × (command_at t h x ≡ Ok (c, y))

alone-read : (t : Token) (w : Word) (l a n : ℕ) (rest : List Token) (args : List Arg) (y : Lexed) → t.text ≡ text_of w → StandsAt t l a n → statement_in w ≡ None → IsWord w →
    AllZip Says rest args → AllZip FitsArg (parameters_of w) args → IsRead t (puts rest y) (record { word = w; line = l; at = a; len = n; args = args }) y
unfolding command_at word_at close_at
alone-read t w l a n rest args y text stands none is says fits =
    let args_read = args-read (parameters_of w) rest args y says fits in
    (head.Word w, ap head_of text ∙ word-found w is none, rw args_read (ap (λ (c : Command). Ok (c, y)) (command-is w l a n args t stands)))

braces-read : (t o m z : Token) (s : Statement) (l a n : ℕ) (inner : List Token) (args : List Arg) (y : Lexed) → t.text ≡ codes "prove" → StandsAt t l a n →
    o.text ≡ codes "{" → m.text ≡ statement_text s → z.text ≡ codes "}" → AllZip Says inner args → AllZip FitsArg (points_of s) args →
    IsRead t (puts (o ∷ m ∷ (inner ++ z ∷ [])) y) (record { word = word.Prove s; line = l; at = a; len = n; args = args }) y
unfolding command_at word_at close_at
braces-read t o m z s l a n inner args y text stands open_text name_text close_text says fits =
    let joined : puts (inner ++ z ∷ []) y ≡ puts inner (put z y) = ap (λ (ts : List Token). record y { tokens = ts }) (append_assoc inner (z ∷ []) y.tokens) in
    let tokens : puts (o ∷ m ∷ (inner ++ z ∷ [])) y ≡ put o (put m (puts inner (put z y))) = ap (λ (x : Lexed). put o (put m x)) joined in
    let open_read = brace-read 123 o (put m (puts inner (put z y))) open_text in
    let name_read = statement-read s m (puts inner (put z y)) name_text in
    let args_read = args-read (points_of s) inner args (put z y) says fits in
    let close_read = brace-read 125 z y close_text in
    (head.Prove, ap head_of text ∙ prove-found, rw tokens (rw open_read (rw name_read (rw args_read (rw close_read (ap (λ (c : Command). Ok (c, y)) (command-is (word.Prove s) l a n args t stands)))))))

-- One command, by the statement that its word asks for.
by-statement : (f : Option Statement) (t : Token) (w : Word) (l a n : ℕ) (rest : List Token) (args : List Arg) (y : Lexed) → statement_in w ≡ f → t.text ≡ text_of w → StandsAt t l a n → IsWord w →
    SpellsRest f rest args → AllZip FitsArg (parameters_of w) args → IsRead t (puts rest y) (record { word = w; line = l; at = a; len = n; args = args }) y
by-statement None t w l a n rest args y e text stands is spells fits = alone-read t w l a n rest args y text stands e is spells fits
by-statement (Some s) t (word.Prove r) l a n rest args y e text stands is spells fits =
    let same : r ≡ s = cc in
    let m_text = spells.6 ∙ ap statement_text (sym same) in
    subst (λ (ts : List Token). IsRead t (puts ts y) (record { word = word.Prove r; line = l; at = a; len = n; args = args }) y) (sym spells.4)
    (braces-read t spells.0 spells.1 spells.3 r l a n spells.2 args y text stands spells.5 m_text spells.7 spells.8 fits)
by-statement (Some s) t w l a n rest args y e text stands is spells fits = cc

first-read : (t : Token) (x y : Lexed) (c : Command) → (length t.text == 0) ≡ false → (r : IsRead t x c y) → first_at (put t x) ≡ Ok (Some (t, r.0, x))
unfolding first_at
first-read t x y c e r = rw (e, r.1) refl

pub text-not-empty : (w : Word) → (length (text_of w) == 0) ≡ false
text-not-empty (word.Mark side.Centre) = refl
text-not-empty (word.CmarkAt s) = grind (arith, nat_tests)
text-not-empty (word.Mark s) = grind (arith, nat_tests)
text-not-empty w = refl

none-read : (n : ℕ) (x : Lexed) → x.tokens ≡ [] → commands_at n x ≡ Ok []
unfolding commands_at first_at
none-read zero x e = rw e refl
none-read (suc n) x e = rw e refl

one-read : (n : ℕ) (t : Token) (x y : Lexed) (c : Command) (cs : List Command) → (length t.text == 0) ≡ false → IsRead t x c y → commands_at n y ≡ Ok cs → commands_at (suc n) (put t x) ≡ Ok (c ∷ cs)
unfolding commands_at
one-read n t x y c cs e r more = rw (first-read t x y c e r) (rw r.2 (rw more refl))

-- Fitting commands that the tokens ahead spell are read, where they are at most as many as are allowed.
pub commands-read : (n : ℕ) (x : Lexed) (cs : List Command) → Spells x.tokens cs → length cs ≤ n → AllByRecursion FitsTable cs → commands_at n x ≡ Ok cs
commands-read n x [] spells most fits = none-read n x spells
commands-read zero x (c ∷ cs) spells most fits = absurd (omega (arith, most))
commands-read (suc n) x (c ∷ cs) spells most fits =
    let one = spells.3 in
    let t = one.0 in
    let rest = one.1 in
    let y : Lexed = record x { tokens = spells.1 } in
    let r = by-statement (statement_in c.word) t c.word c.line c.at c.len rest c.args y refl one.3 one.4 fits.0.0 one.5 fits.0.1 in
    let later = commands-read n y cs spells.4 (omega (arith, most)) fits.1 in
    let ahead : x ≡ put t (puts rest y) = ap (λ (ts : List Token). record x { tokens = ts }) (spells.2 ∙ ap (λ (front : List Token). front ++ spells.1) one.2) in
    let text : (length t.text == 0) ≡ false = ap (λ (text : List ℕ). length text == 0) one.3 ∙ text-not-empty c.word in
    ap (commands_at (suc n)) ahead ∙ one-read n t (puts rest y) y c cs text r later

-- What is shown of fitting commands is read as the same words and values.
use Rattle.std.proofs.Common.{◌≡◌, ℕ, ◌+◌, suc, List, [], ◌∷◌, ◌++◌, length, map, Option, Some, None, refl, sym, ap, subst, ◌∙◌, append_assoc, codes}
use Rattle.std.specs.Prelude.{flat_map}
use Rattle.std.specs.List.{AllZip, AllByRecursion}
use Rattle.gcl_reader.specs.declared.limits.TheConstants.{MOST_COMMANDS}
use Rattle.gcl_reader.specs.Tokens.{Token, Between, tokens_from, lexed, is_blank}
use Rattle.gcl_reader.specs.Table.{text_of, statement_text, parameters_of, points_of}
use Rattle.gcl_reader.specs.Grammar.{arg_with}
use Rattle.gcl_reader.specs.Fitting.{IsWord, FitsTable}
use Rattle.gcl_reader.specs.Spelling.{Says, statement_in, SpellsRest, SpellsCommand, Spells}
use Rattle.gcl_reader.specs.Show.{arg_text, rest_text, show_text, values_of, SameOnLines, ShownIsRead}
use Rattle.gcl_reader.specs.declared.word.Word.{Word}
use Rattle.gcl_reader.specs.declared.word.Word.TheVariants as word
use Rattle.gcl_reader.specs.declared.word.Statement.{Statement}
use Rattle.gcl_reader.specs.declared.word.Parameter.{Parameter}
use Rattle.gcl_reader.specs.declared.file.What.{What}
use Rattle.gcl_reader.specs.declared.file.Arg.{Arg}
use Rattle.gcl_reader.specs.declared.file.Command.{Command}
use Rattle.gcl_reader.proofs.Spelled.{FitsArg}
use Rattle.gcl_reader.proofs.ReadAgain.{commands-read}
use Rattle.gcl_reader.proofs.Lines.{IsCut, args-cut, text-off, statement-off, open-off, close-off, blank-passed, line-passed, SaysOn, args-ahead}

-- The arguments with the places of the tokens.
abbrev args_on : List Token → List Arg → List Arg
args_on [] args = []
args_on (t ∷ ts) [] = []
args_on (t ∷ ts) (a ∷ args) = arg_with a.what t ∷ args_on ts args

values : List Arg → List What
values args = map (λ (a : Arg). a.what) args

abbrev SameArgs : List Parameter → List Token → List Arg → List Arg → Type 0
SameArgs ps ts args others = AllZip Says ts others × AllZip FitsArg ps others × (map (λ (a : Arg). a.what) others ≡ map (λ (a : Arg). a.what) args)

args-same : (line : ℕ) (ps : List Parameter) (ts : List Token) (args : List Arg) → AllZip (SaysOn line) ts args → AllZip FitsArg ps args → SameArgs ps ts args (args_on ts args)
args-same line [] [] [] says fits = (tt, tt, refl)
args-same line ps (t ∷ ts) [] says fits = absurd says
args-same line ps [] (a ∷ args) says fits = absurd says
args-same line [] ts (a ∷ args) says fits = absurd fits
args-same line (p ∷ ps) ts [] says fits = absurd fits
args-same line (p ∷ ps) (t ∷ ts) (a ∷ args) says fits =
    let rest = args-same line ps ts args says.1 fits.1 in
    (((says.0.1, (refl, refl, refl)), rest.0), (fits.0, rest.1), ap (λ (ws : List What). a.what ∷ ws) rest.2)

-- A command on a line, as its tokens say it.
abbrev LineAhead : ℕ → ℕ → Word → List Arg → List ℕ → Type 0
LineAhead line at w args more =
    (ts : List Token) × (end : ℕ) × (d : Command)
    × (tokens_from Between line at ((text_of w ++ rest_text (statement_in w) args ++ codes "\n") ++ more) ≡ ts ++ tokens_from Between (line + 1) end more)
    × SpellsCommand ts d × FitsTable d × (d.word ≡ w) × (values_of d ≡ map (λ (a : Arg). a.what) args) × (d.line ≡ line)

line-regroup : (a b more : List ℕ) → (a ++ b ++ codes "\n") ++ more ≡ a ++ (b ++ (10 ∷ more))
line-regroup a b more = simp append_assoc

braces-regroup : (s args more : List ℕ) → (((s ++ args) ++ codes " }") ++ (10 ∷ more)) ≡ s ++ (args ++ (32 ∷ 125 ∷ 10 ∷ more))
braces-regroup s args more = simp append_assoc

line-feed-cuts : (more : List ℕ) → IsCut (10 ∷ more)
unfolding is_blank
line-feed-cuts more = refl

blank-cuts : (more : List ℕ) → IsCut (32 ∷ more)
unfolding is_blank
blank-cuts more = refl

rest-cut : (f : Option Statement) (args : List Arg) (more : List ℕ) → IsCut (rest_text f args ++ (10 ∷ more))
unfolding is_blank
rest-cut None [] more = refl
rest-cut None (a ∷ args) more = refl
rest-cut (Some s) args more = refl

-- a token in front of others
behind : {ts : List Token} {rest : List Token} (t : Token) → ts ≡ rest → t ∷ ts ≡ t ∷ rest
behind t e = ap (λ (l : List Token). t ∷ l) e

first-token : ℕ → ℕ → Word → Token
first-token line at w = record { line = line; at = at; text = text_of w }

alone-ahead : (line at : ℕ) (w : Word) (args : List Arg) (more : List ℕ) → statement_in w ≡ None → IsWord w → AllZip FitsArg (parameters_of w) args → LineAhead line at w args more
alone-ahead line at w args more none is fits =
    let t : Token = record { line = line; at = at; text = text_of w } in
    let start : ℕ = at + length (text_of w) in
    let a = args-ahead (parameters_of w) args line start (10 ∷ more) fits (line-feed-cuts more) in
    let same = args-same line (parameters_of w) a.0 args a.3 fits in
    let d : Command = record { word = w; line = line; at = at; len = length (text_of w); args = args_on a.0 args } in
    let whole = ap (tokens_from Between line at) (line-regroup (text_of w) (rest_text (statement_in w) args) more) in
    let word = text-off w is line at (rest_text (statement_in w) args ++ (10 ∷ more)) (rest-cut (statement_in w) args more) in
    let alone = ap (λ (f : Option Statement). tokens_from Between line start (rest_text f args ++ (10 ∷ more))) none in
    let ended = ap (λ (l : List Token). a.0 ++ l) (line-passed line a.1 more) in (
      t ∷ a.0,
      a.1 + 1,
      d,
      whole ∙ word ∙ behind t (alone ∙ a.2 ∙ ended),
      (t, a.0, refl, refl, (refl, refl, refl), subst (λ (f : Option Statement). SpellsRest f a.0 (args_on a.0 args)) (sym none) same.0),
      (is, same.1),
      refl,
      same.2,
      refl,
    )

braces-ahead : (line at : ℕ) (s : Statement) (args : List Arg) (more : List ℕ) → AllZip FitsArg (points_of s) args → LineAhead line at (word.Prove s) args more
braces-ahead line at s args more fits =
    let t : Token = record { line = line; at = at; text = codes "prove" } in
    let p1 : ℕ = at + length (codes "prove") in
    let o : Token = record { line = line; at = p1 + 1; text = codes "{" } in
    let p2 : ℕ = p1 + 1 + length (codes "{") in
    let n : Token = record { line = line; at = p2 + 1; text = statement_text s } in
    let p3 : ℕ = p2 + 1 + length (statement_text s) in
    let points : List ℕ = flat_map arg_text args in
    let close : List ℕ = 32 ∷ 125 ∷ 10 ∷ more in
    let a = args-ahead (points_of s) args line p3 close fits (blank-cuts (125 ∷ 10 ∷ more)) in
    let z : Token = record { line = line; at = a.1 + 1; text = codes "}" } in
    let end : ℕ = a.1 + 1 + length (codes "}") in
    let same = args-same line (points_of s) a.0 args a.3 fits in
    let d : Command = record { word = word.Prove s; line = line; at = at; len = length (codes "prove"); args = args_on a.0 args } in
    let whole = ap (tokens_from Between line at) (line-regroup (codes "prove") (rest_text (Some s) args) more) in
    let word = text-off (word.Prove s) tt line at (rest_text (Some s) args ++ (10 ∷ more)) (rest-cut (Some s) args more) in
    let inner : List ℕ = ((statement_text s ++ points) ++ codes " }") ++ (10 ∷ more) in
    let opened = blank-passed line p1 (123 ∷ 32 ∷ inner) ∙ open-off line (p1 + 1) (32 ∷ inner) (blank-cuts inner) in
    let named = blank-passed line p2 inner ∙ ap (tokens_from Between line (p2 + 1)) (braces-regroup (statement_text s) points more) ∙ statement-off s line (p2 + 1) (points ++ close) (args-cut args close (blank-cuts (125 ∷ 10 ∷ more))) in
    let closed = blank-passed line a.1 (125 ∷ 10 ∷ more) ∙ close-off line (a.1 + 1) (10 ∷ more) (line-feed-cuts more) ∙ behind z (line-passed line end more) in
    let ended = a.2 ∙ ap (λ (l : List Token). a.0 ++ l) closed ∙ sym (append_assoc a.0 (z ∷ []) (tokens_from Between (line + 1) (end + 1) more)) in (
      t ∷ o ∷ n ∷ (a.0 ++ z ∷ []),
      end + 1,
      d,
      whole ∙ word ∙ behind t (opened ∙ behind o (named ∙ behind n ended)),
      (t, o ∷ n ∷ (a.0 ++ z ∷ []), refl, refl, (refl, refl, refl), (o, n, a.0, z, refl, refl, refl, refl, same.0)),
      (tt, same.1),
      refl,
      same.2,
      refl,
    )

line-ahead : (f : Option Statement) (line at : ℕ) (w : Word) (args : List Arg) (more : List ℕ) → statement_in w ≡ f → IsWord w → AllZip FitsArg (parameters_of w) args → LineAhead line at w args more
line-ahead None line at w args more e is fits = alone-ahead line at w args more e is fits
line-ahead (Some s) line at (word.Prove r) args more e is fits = braces-ahead line at r args more fits
line-ahead (Some s) line at w args more e is fits = cc

-- Commands, line by line.
abbrev LinesAhead : ℕ → ℕ → List Command → Type 0
LinesAhead line at cs = (ds : List Command) × Spells (tokens_from Between line at (show_text cs)) ds × SameOnLines line cs ds × AllByRecursion FitsTable ds × (length ds ≡ length cs)

no-lines : (line at : ℕ) → tokens_from Between line at [] ≡ []
unfolding tokens_from
no-lines line at = refl

lines-ahead : (cs : List Command) (line at : ℕ) → AllByRecursion FitsTable cs → LinesAhead line at cs
lines-ahead [] line at fits = ([], no-lines line at, tt, tt, refl)
lines-ahead (c ∷ cs) line at fits =
    let one = line-ahead (statement_in c.word) line at c.word c.args (show_text cs) refl fits.0.0 fits.0.1 in
    let rest = lines-ahead cs (line + 1) one.1 fits.1 in
    (one.2 ∷ rest.0, (one.0, tokens_from Between (line + 1) one.1 (show_text cs), one.3, one.4, rest.1), (one.6, one.7, one.8, rest.2), (one.5, rest.3), ap suc rest.4)

pub shown-is-read : ShownIsRead
shown-is-read commands fits =
    let lines = lines-ahead commands 1 0 fits.1 in
    (lines.0, commands-read MOST_COMMANDS (lexed (show_text commands)) lines.0 lines.1 (rw lines.4 fits.0) lines.3, lines.2)

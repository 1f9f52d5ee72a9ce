-- The canonical spelling of commands, and what it is read as.
use Rattle.std.specs.Prelude.{◌≡◌, ℕ, ◌+◌, List, [], ◌∷◌, ◌++◌, map, flat_map, Option, Some, None, Ok, codes}
use Rattle.fixed_point.specs.Text.{number_text}
use Rattle.fixed_point.specs.declared.limits.TheConstants.{MOST_DECIMALS}
use Rattle.gcl_reader.specs.Table.{text_of, statement_text}
use Rattle.gcl_reader.specs.Grammar.{file_of}
use Rattle.gcl_reader.specs.Fitting.{IsFitting}
use Rattle.gcl_reader.specs.Spelling.{statement_in}
use Rattle.gcl_reader.specs.declared.word.Statement.{Statement}
use Rattle.gcl_reader.specs.declared.file.What.{What}
use Rattle.gcl_reader.specs.declared.file.What.TheVariants as what
use Rattle.gcl_reader.specs.declared.file.Arg.{Arg}
use Rattle.gcl_reader.specs.declared.file.Command.{Command}

-- A name is its own text, and a number has its shortest decimal text.
abbrev pub value_text : What → List ℕ
value_text (what.Name name) = name
value_text (what.Number n) = number_text MOST_DECIMALS n

-- An argument stands behind a blank.
abbrev pub arg_text : Arg → List ℕ
arg_text a = codes " " ++ value_text a.what

-- What stands behind a word: its arguments; for a proof they stand in braces, behind the statement.
abbrev pub rest_text : Option Statement → List Arg → List ℕ
rest_text None args = flat_map arg_text args
rest_text (Some s) args = codes " { " ++ statement_text s ++ flat_map arg_text args ++ codes " }"

-- A command is a line.
abbrev pub line_text : Command → List ℕ
line_text c = text_of c.word ++ rest_text (statement_in c.word) c.args ++ codes "\n"

-- The lines of the commands, in their order.
abbrev pub show_text : List Command → List ℕ
show_text commands = flat_map line_text commands

-- The values of a command's arguments.
abbrev pub values_of : Command → List What
values_of c = map (λ (a : Arg). a.what) c.args

-- The second list has the words and the values of the first, and its commands stand on the lines from a line on.
abbrev pub SameOnLines : ℕ → List Command → List Command → Type 0
SameOnLines line [] [] = Unit {0}
SameOnLines line [] (d ∷ ds) = ⊥
SameOnLines line (c ∷ cs) [] = ⊥
SameOnLines line (c ∷ cs) (d ∷ ds) =
    (d.word ≡ c.word) × (values_of d ≡ values_of c) × (d.line ≡ line) × SameOnLines (line + 1) cs ds

-- The spelling of fitting commands is read as the same words and values, command k on line k.
abbrev pub ShownIsRead : Type 0
ShownIsRead = (commands : List Command) → IsFitting commands →
    (again : List Command) × (file_of (show_text commands) ≡ Ok again) × SameOnLines 1 commands again

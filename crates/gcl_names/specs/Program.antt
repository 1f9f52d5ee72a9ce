-- The program of a file: its commands in order, each with numbers in place of names.
use Rattle.std.specs.Prelude.{ℕ, ◌+◌, List, [], ◌∷◌, Option, Some, None, option_map, Result, Ok, Err, if◌then◌else◌, nat_le, false}
use Rattle.gcl_reader.specs.Grammar.{◌>>=◌, file_of}
use Rattle.gcl_reader.specs.Span.{refusal, span_of_command}
use Rattle.gcl_reader.specs.Table.{parameters_of}
use Rattle.gcl_reader.specs.Spelling.{statement_in}
use Rattle.gcl_reader.specs.declared.word.Statement.{Statement}
use Rattle.gcl_reader.specs.declared.span.Span.{Span}
use Rattle.gcl_reader.specs.declared.refusal.Kind.TheVariants as kind
use Rattle.gcl_reader.specs.declared.refusal.Refusal.{Refusal}
use Rattle.gcl_reader.specs.declared.file.Command.{Command}
use Rattle.gcl_names.specs.Scope.{nothing_defined}
use Rattle.gcl_names.specs.Reference.{refs_in}
use Rattle.gcl_names.specs.Deed.{deed_of}
use Rattle.gcl_names.specs.declared.limits.TheConstants.{MOST_PROVES}
use Rattle.gcl_names.specs.declared.scope.Scope.{Scope}
use Rattle.gcl_names.specs.declared.program.Deed.{Deed}
use Rattle.gcl_names.specs.declared.program.Act.{Act}
use Rattle.gcl_names.specs.declared.program.Program.{Program}

-- A statement to be proved is counted at its command's word, in front of the arguments.
abbrev pub counted : Command → Option Statement → Scope → Result Scope Refusal
counted c None scope = Ok scope
counted c (Some s) scope =
    if nat_le MOST_PROVES scope.proves then Err (refusal kind.TooManyProves (span_of_command c))
    else Ok (record scope { proves = scope.proves + 1 })

-- The act stands where its command does.
abbrev pub act_with : Command → Deed → Act
act_with c d = record { line = c.line; at = c.at; len = c.len; deed = d }

-- Where an act's command stands.
abbrev pub span_of_act : Act → Span
span_of_act a = record { line = a.line; at = a.at; len = a.len }

-- The act of a command, behind the commands that made the scope. A fitting command has one.
unfoldable pub act_in : Command → Scope → Result (Option Act × Scope) Refusal
act_in c s = do
  start ← counted c (statement_in c.word) s
  refs ← refs_in (parameters_of c.word) c.args start.names false start
  Ok (option_map (act_with c) (deed_of c.word refs.0), refs.1)

-- An act, where there is one, in front of others.
abbrev pub put : Option Act → List Act → List Act
put None acts = acts
put (Some a) acts = a ∷ acts

-- The acts of commands, from the first to the last.
unfoldable pub acts_in : List Command → Scope → Result (List Act × Scope) Refusal
acts_in [] s = Ok ([], s)
acts_in (c ∷ commands) s = do
  a ← act_in c s
  others ← acts_in commands a.1
  Ok (put a.0 others.0, others.1)

-- Acts, with what they define and ask for.
abbrev pub program_with : List Act → Scope → Program
program_with acts s =
    record { acts = acts; points = s.points; lines = s.lines; circles = s.circles; proves = s.proves }

-- The commands of a file, resolved.
unfoldable pub resolved : List Command → Result Program Refusal
resolved commands = do
  a ← acts_in commands nothing_defined
  Ok (program_with a.0 a.1)

-- The program that bytes spell, or the first refusal; the names are judged only where the whole file is read.
abbrev pub program_of : List ℕ → Result Program Refusal
program_of bytes = file_of bytes >>= resolved

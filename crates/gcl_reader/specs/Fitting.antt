-- Fitting commands: those that some file can spell.
use Rattle.std.specs.Prelude.{◌≤◌, List, length, IsTrue, ℤ, unsigned_abs}
use Rattle.std.specs.List.{AllZip, AllByRecursion}
use Rattle.gcl_reader.specs.Name.{is_name}
use Rattle.gcl_reader.specs.Table.{parameters_of, in_range}
use Rattle.fixed_point.specs.declared.limits.TheConstants.{MOST_MILLIONTHS}
use Rattle.gcl_reader.specs.declared.limits.TheConstants.{MOST_COMMANDS}
use Rattle.gcl_reader.specs.declared.word.Side.TheVariants as side
use Rattle.gcl_reader.specs.declared.word.Word.{Word}
use Rattle.gcl_reader.specs.declared.word.Word.TheVariants as word
use Rattle.gcl_reader.specs.declared.word.Parameter.{Parameter}
use Rattle.gcl_reader.specs.declared.word.Parameter.TheVariants as parameter
use Rattle.gcl_reader.specs.declared.file.What.{What}
use Rattle.gcl_reader.specs.declared.file.What.TheVariants as what
use Rattle.gcl_reader.specs.declared.file.Arg.{Arg}
use Rattle.gcl_reader.specs.declared.file.Command.{Command}

-- A word of the language: a ring with a name has the name at one of the eight sides.
abbrev pub IsWord : Word → Type 0
IsWord (word.CmarkAt side.Centre) = ⊥
IsWord w = Unit {0}

-- No number is larger.
abbrev pub IsSize : ℤ → Type 0
IsSize n = unsigned_abs n ≤ MOST_MILLIONTHS

-- A value for a parameter: a number of the parameter's range, or else a name.
abbrev pub FitsParameter : Parameter → What → Type 0
FitsParameter (parameter.Number r) (what.Number n) = IsSize n × IsTrue (in_range r n)
FitsParameter (parameter.Number r) (what.Name name) = ⊥
FitsParameter parameter.NewPoint (what.Name name) = IsTrue (is_name name)
FitsParameter parameter.NewLine (what.Name name) = IsTrue (is_name name)
FitsParameter parameter.NewCircle (what.Name name) = IsTrue (is_name name)
FitsParameter parameter.Point (what.Name name) = IsTrue (is_name name)
FitsParameter parameter.Line (what.Name name) = IsTrue (is_name name)
FitsParameter parameter.Circle (what.Name name) = IsTrue (is_name name)
FitsParameter parameter.Curve (what.Name name) = IsTrue (is_name name)
FitsParameter parameter.OtherCurve (what.Name name) = IsTrue (is_name name)
FitsParameter p (what.Number n) = ⊥

-- One argument for each parameter of the word.
abbrev pub FitsTable : Command → Type 0
FitsTable c = IsWord c.word × AllZip (λ p (a : Arg). FitsParameter p a.what) (parameters_of c.word) c.args

-- Not too many commands, each of which fits the table.
abbrev pub IsFitting : List Command → Type 0
IsFitting commands = (length commands ≤ MOST_COMMANDS) × AllByRecursion FitsTable commands

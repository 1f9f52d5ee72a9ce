-- The line on notes that refuses a file.
use Rattle.std.specs.Prelude.{ℕ, ◌++◌, List, [], take, drop, min, cond, nat_lt, codes, decimal}
use Rattle.gcl_reader.specs.declared.refusal.Refusal.{Refusal}
use Rattle.gcl_reader.specs.declared.refusal.Kind.{Kind}
use Rattle.gcl_reader.specs.declared.refusal.Kind.TheVariants as kind
use Rattle.command_line.specs.declared.note.TheConstants.{MOST_SHOWN}

-- The name of a kind of refusal.
abbrev pub kind_text : Kind → List ℕ
kind_text kind.NotText = codes "NotText"
kind_text kind.UnknownCommand = codes "UnknownCommand"
kind_text kind.WantsName = codes "WantsName"
kind_text kind.WantsNumber = codes "WantsNumber"
kind_text kind.BadNumber = codes "BadNumber"
kind_text kind.WantsBrace = codes "WantsBrace"
kind_text kind.EndInside = codes "EndInside"
kind_text kind.UnknownStatement = codes "UnknownStatement"
kind_text kind.TooManyCommands = codes "TooManyCommands"
kind_text kind.Undefined = codes "Undefined"
kind_text kind.Twice = codes "Twice"
kind_text kind.WrongKind = codes "WrongKind"
kind_text kind.TooManyProves = codes "TooManyProves"
kind_text kind.TooManyPoints = codes "TooManyPoints"
kind_text kind.TooManyVars = codes "TooManyVars"
kind_text kind.NoMeet = codes "NoMeet"
kind_text kind.SamePoints = codes "SamePoints"
kind_text kind.OutOfRange = codes "OutOfRange"
kind_text kind.BadFigure = codes "BadFigure"

-- A blank and the first 40 bytes of the token at fault; nothing where there is no token.
abbrev pub token_text : List ℕ → Refusal → List ℕ
token_text bytes refusal = cond (nat_lt 0 refusal.len) (codes " " ++ take (min MOST_SHOWN refusal.len) (drop refusal.at bytes)) []

-- `refused: line L: KIND TOKEN`
abbrev pub refusal_line : List ℕ → Refusal → List ℕ
refusal_line bytes refusal =
    codes "refused: line " ++ decimal refusal.line ++ codes ": " ++ kind_text refusal.kind ++ token_text bytes refusal ++ codes "\n"

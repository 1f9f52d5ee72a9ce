-- What a reader has done with the bytes that it was fed so far.
use Rattle.std.specs.Prelude.{◌≡◌, ℕ, ◌+◌, List, [], ◌∷◌, ◌++◌, ◌⊎◌, length, Option, Some, None, Result, Ok, Err}
use Rattle.proof_log.specs.Text.{text_of, AreLines}
use Rattle.proof_log.specs.Places.{run, start}
use Rattle.proof_log.specs.Grammar.{names_behind, IsUnended, IsWhole, Begins, Refuses, EndsEarly}
use Rattle.proof_log.specs.Settings.{unsettled, setting_behind, AreOf}
use Rattle.proof_log.specs.declared.line.LogLine.{LogLine}
use Rattle.proof_log.specs.declared.reader.LogReader.{LogReader}
use Rattle.proof_log.specs.declared.reader.LogFault.{LogFault}
use Rattle.proof_log.specs.declared.reader.LogFault.TheVariants as fault

-- It handed out these lines, and holds the rest, which has no end of a line.
pub record Fed (front : List LogLine) (r : LogReader) (bytes : List ℕ) : Type 0 where
  pub text : bytes ≡ text_of [] front ++ r.held.items
  pub unended : IsUnended r.held.items
  pub lines : AreLines [] front
  pub place : run start front ≡ Some r.place
  pub names : r.vars ≡ names_behind [] front
  pub setting : r.setting ≡ setting_behind unsettled front
  pub own : AreOf unsettled front
  pub count : r.lines ≡ length front
  pub well : r.fault ≡ None

-- It handed out these lines, and the next one is refused.
pub record Stopped (front : List LogLine) (bytes : List ℕ) (n : ℕ) : Type 0 where
  pub refuses : Refuses front bytes
  pub number : n ≡ length front + 1

-- It handed out these lines, and had no memory for what follows them.
abbrev pub Starved : List LogLine → List ℕ → Type 0
Starved front bytes = (rest : List ℕ) × Begins front rest bytes

abbrev pub FedWith : Option LogFault → List LogLine → LogReader → List ℕ → Type 0
FedWith None front r bytes = Fed front r bytes
FedWith (Some (fault.Malformed n)) front r bytes = Stopped front bytes n
FedWith (Some fault.OutOfMemory) front r bytes = Starved front bytes

abbrev pub IsFed : List LogLine → LogReader → List ℕ → Type 0
IsFed front r bytes = FedWith r.fault front r bytes

-- A line was ended.
abbrev pub Ended : Result (Unit {0}) LogFault → List LogLine → List LogLine → List LogLine → LogReader → List ℕ → Type 0
Ended (Ok _) old new front r bytes = (l : LogLine) × (new ≡ old ++ l ∷ []) × Fed (front ++ l ∷ []) r bytes
Ended (Err f) old new front r bytes = (new ≡ old) × (r.fault ≡ Some f) × FedWith (Some f) front r bytes

-- A piece was fed: the lines that were added stand behind those before.
abbrev pub FedTo : Result (Unit {0}) LogFault → List LogLine → LogReader → List ℕ → Type 0
FedTo (Ok _) front r bytes = Fed front r bytes
FedTo (Err f) front r bytes = (r.fault ≡ Some f) × IsFed front r bytes

-- The bytes have ended, and are a whole log.
pub record Whole (front : List LogLine) (bytes : List ℕ) : Type 0 where
  pub lines : AreLines [] front
  pub own : AreOf unsettled front
  pub whole : IsWhole front
  pub text : bytes ≡ text_of [] front

abbrev pub Finished : Result (Unit {0}) LogFault → List LogLine → List ℕ → Type 0
Finished (Ok _) front bytes = Whole front bytes
Finished (Err (fault.Malformed n)) front bytes = (Refuses front bytes ⊎ EndsEarly front bytes) × (n ≡ length front + 1)
Finished (Err fault.OutOfMemory) front bytes = Starved front bytes

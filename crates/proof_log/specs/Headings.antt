-- What a log states of itself: the version of its rules, and the fuel that all its proofs have together.
use Rattle.std.specs.Prelude.{◌≡◌, ℕ, ◌/◌, List, [], ◌∷◌, Bool, false, if◌then◌else◌}
use Rattle.proof_steps.specs.Rules.{has_second}
use Rattle.proof_log.specs.declared.limits.TheConstants.{FIRST_FUEL}
use Rattle.proof_log.specs.declared.line.LogLine.{LogLine}
use Rattle.proof_log.specs.declared.line.LogLine.TheVariants as line
use Rattle.proof_log.specs.declared.log.Log.{Log}

pub record Heading : Type 0 where
  pub version : ℕ
  pub fuel : ℕ

abbrev pub heading : ℕ → ℕ → Heading
heading version fuel = record { version = version; fuel = fuel }

abbrev pub heading_of : Log → Heading
heading_of log = heading log.version log.fuel

-- A log of the first version does not state its fuel: it is the same for all of them.
abbrev pub fuel_lines : Bool → ℕ → List LogLine
fuel_lines stated fuel = if stated then line.Fuel fuel ∷ [] else []

abbrev pub IsHeading : Heading → Type 0
IsHeading h = has_second h.version ≡ false → h.fuel ≡ FIRST_FUEL

-- The share of each of so many proofs.
abbrev pub share_of : (fuel proofs : ℕ) → ℕ
share_of fuel proofs = fuel / proofs

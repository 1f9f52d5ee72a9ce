-- What a split makes of the node that is worked on.
use Rattle.std.specs.Prelude.{◌≡◌, ◌≤◌, ◌<◌, ◌+◌, ◌-◌, ◌/◌, max, ℕ, List, [], ◌∷◌, ◌++◌, set, Option, Some, None, true, false}
use Rattle.std.specs.List.{list_any}
use Rattle.poly_model.specs.Polynomial.{Polynomial}
use Rattle.proof_steps.specs.Rules.{reason_of, made, is_short, parted}
use Rattle.proof_steps.specs.Trees.{AsOutcome, recorded_as}
use Rattle.proof_steps.specs.declared.piece.Node.{Node}
use Rattle.proof_steps.specs.declared.piece.Outcome.TheVariants as outcome
use Rattle.proof_steps.specs.declared.step.Attempt.TheVariants as attempt
use Rattle.poly_model.specs.declared.limits.Reason.TheVariants.{Fuel}
use Rattle.workbench.specs.declared.splitting.Fuels.{Fuels}
use Rattle.workbench.specs.declared.splitting.Parting.{Parting}
use Rattle.workbench.specs.declared.splitting.Parting.TheVariants as parting

abbrev pub Parts : ℕ → Node → ℕ → Parting → Type 0
Parts version n f (parting.Parted j plus minus) =
    (reason_of version n (attempt.Split f) ≡ None)
    × (recorded_as n (attempt.Split f) ≡ AsOutcome (outcome.Split f j))
    × (made version n (attempt.Split f) ≡ plus ∷ minus ∷ [])
Parts version n f (parting.Stopped why) = reason_of version n (attempt.Split f) ≡ Some why

-- The same by the initial and the tail.
abbrev pub pair : Node → ℕ → Polynomial → Polynomial → List Node
pair n i j r = parted n j n.eqs (set n.eqs i r ++ j ∷ [])

abbrev pub PartedBy : Node → ℕ → Polynomial → Polynomial → Parting → Type 0
PartedBy n i j r (parting.Parted k plus minus) = (k ≡ j) × (pair n i j r ≡ plus ∷ minus ∷ []) × (list_any is_short (pair n i j r) ≡ false)
PartedBy n i j r (parting.Stopped why) = (why ≡ Fuel) × (list_any is_short (pair n i j r) ≡ true)

-- The fuel of the second child is an eighth or its size, that of the first is the rest.
abbrev pub second_fuel : ℕ → ℕ → ℕ → ℕ
second_fuel fuel gain size = max ((fuel - (1 + gain)) / 8) size

abbrev pub Shares : Option Fuels → (fuel size gain minus_size : ℕ) → Type 0
Shares None fuel size gain minus_size = fuel - (1 + gain) - second_fuel fuel gain minus_size < size + (1 + gain)
Shares (Some f) fuel size gain minus_size =
    (f.minus ≡ second_fuel fuel gain minus_size)
    × (f.plus ≡ fuel - (1 + gain) - second_fuel fuel gain minus_size)
    × (size + (1 + gain) ≤ f.plus)

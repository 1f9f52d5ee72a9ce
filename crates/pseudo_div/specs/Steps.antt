-- The steps of a pseudo-division, paid from fuel, and why it stops.
use Rattle.std.specs.Prelude.{◌≡◌, ℕ, ◌+◌, ◌-◌, ◌≤◌, ℤ, List, [], ◌∷◌, length, true, false, IsTrue, nat_le, Option, Some, None, Result, Ok, Err}
use Rattle.poly_model.specs.Polynomial.{Polynomial}
use Rattle.poly_model.specs.Reduction.{reaches}
use Rattle.poly_model.specs.Bounded.{bounded_reduction}
use Rattle.poly_model.specs.Reasons.{reason_of}
use Rattle.poly_model.specs.Division.{division_of}
use Rattle.poly_model.specs.declared.limits.Limit.{Limit}
use Rattle.poly_model.specs.declared.limits.Reason.{Reason}
use Rattle.poly_model.specs.declared.limits.Reason.TheVariants.{Fuel}

-- A step costs 1 and the terms of its result.
abbrev pub cost_of : Polynomial → ℕ
cost_of r = 1 + length r

-- The steps lead from g with so much fuel to a rest with what is left: each is the reduction, by f, of the rest before it,
-- which reaches the degree of f, and its cost is paid.
abbrev pub AreSteps : Polynomial → List (ℤ × Polynomial) → Polynomial → ℕ → Polynomial → ℕ → Type 0
AreSteps f [] g fuel rest left = (g ≡ rest) × (fuel ≡ left)
AreSteps f (step ∷ steps) g fuel rest left =
    IsTrue (reaches g f) × (bounded_reduction g f ≡ Ok step) × (cost_of step.1 ≤ fuel) × AreSteps f steps step.1 (fuel - cost_of step.1) rest left

-- What a step that reaches this outcome meets: its limit, else the fuel.
abbrev pub met_by : ℕ → Result (ℤ × Polynomial) Limit → Option Reason
met_by fuel (Err limit) = Some (reason_of limit)
met_by fuel (Ok step) = elim (nat_le (cost_of step.1) fuel) [ true ↦ None | false ↦ Some Fuel ]

-- Why a division stops at a rest: nothing where the rest does not reach the degree of f, else what the next step meets.
abbrev pub Stops : Polynomial → Polynomial → ℕ → Option Reason → Type 0
Stops rest f left None = reaches rest f ≡ false
Stops rest f left (Some reason) = IsTrue (reaches rest f) × (met_by left (bounded_reduction rest f) ≡ Some reason)

-- The rest of the division of g by f after so many steps.
abbrev pub rest_after : Polynomial → Polynomial → List (ℤ × Polynomial) → Polynomial
rest_after g f steps = (division_of g f (length steps)).rest

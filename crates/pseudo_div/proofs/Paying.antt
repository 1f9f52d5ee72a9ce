-- What a step meets, by its cost.
use Rattle.std.proofs.Common.{◌≡◌, ℕ, ◌≤◌, ◌∙◌, ap, true, false, nat_le}
use Rattle.std.specs.Prelude.{ℤ, Option, Some, None, Result, Ok}
use Rattle.std.proofs.lemmas.Bool.Decides.{nat_tests}
use Rattle.std.proofs.Common.{arith}
use Rattle.poly_model.specs.Polynomial.{Polynomial}
use Rattle.poly_model.specs.declared.limits.Limit.{Limit}
use Rattle.poly_model.specs.declared.limits.Reason.{Reason}
use Rattle.poly_model.specs.declared.limits.Reason.TheVariants.{Fuel}
use Rattle.pseudo_div.specs.Steps.{cost_of, met_by}

past : (a b : ℕ) → (a ≤ b → ⊥) → nat_le a b ≡ false
past a b n = grind (arith, nat_tests)

-- a step that costs more than is left
pub met-fuel : (fuel : ℕ) (whole : Result (ℤ × Polynomial) Limit) (p : ℤ × Polynomial) → whole ≡ Ok p → (cost_of p.1 ≤ fuel → ⊥) → met_by fuel whole ≡ Some Fuel
met-fuel fuel whole p e n =
    ap (met_by fuel) e ∙ ap (λ b. elim b as (λ _. Option Reason) [ true ↦ None | false ↦ Some Fuel ]) (past (cost_of p.1) fuel n)

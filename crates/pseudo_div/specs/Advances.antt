-- One step more of a division over a store.
use Rattle.std.specs.Prelude.{◌≡◌, ℕ, ◌-◌, ◌≤◌, ℤ, Some, Result, Ok}
use Rattle.poly_model.specs.Polynomial.{Polynomial}
use Rattle.poly_model.specs.declared.limits.Limit.{Limit}
use Rattle.term_store.specs.States.{State}
use Rattle.term_store.specs.Changes.{Keeps, given_up}
use Rattle.polynomials.specs.declared.poly.Poly.{Poly}
use Rattle.polynomials.specs.Held.{Gives, slot_of}
use Rattle.pseudo_div.specs.Steps.{cost_of, met_by}
use Rattle.pseudo_div.specs.declared.division.Advance.{Advance}
use Rattle.pseudo_div.specs.declared.division.Advance.TheVariants as advance

-- A step that stops meets the reason, and the store is as it was; one that is made is paid, and its result stands in a new
-- list instead of the rest's.
abbrev pub Advances : State → State → Poly → ℕ → Result (ℤ × Polynomial) Limit → Advance → Type 0
Advances s t rest fuel outcome (advance.Stopped reason) = (met_by fuel outcome ≡ Some reason) × Keeps s t
Advances s t rest fuel outcome (advance.Stepped m result next left) =
    (outcome ≡ Ok (m, result)) × (cost_of result ≤ fuel) × (left ≡ fuel - cost_of result) × Gives (given_up s (slot_of rest)) t next result

-- Reasons, their comparison, and the limit that an operation meets as a reason.
use Rattle.std.specs.Prelude.{ℕ, Bool, ◌==◌, Option, Some, None, Result, Ok, Err}
use Rattle.poly_model.specs.Reasons.{reason_of}
use Rattle.poly_model.specs.declared.limits.Limit.{Limit}
use Rattle.poly_model.specs.declared.limits.Reason.{Reason}
use Rattle.poly_model.specs.declared.limits.Reason.TheVariants as reason

abbrev pub rank : Reason → ℕ
rank reason.Degree = 1
rank reason.Bound = 2
rank reason.Terms = 3
rank reason.Depth = 4
rank reason.Fuel = 5

abbrev pub rank_of : Option Reason → ℕ
rank_of None = 0
rank_of (Some r) = rank r

abbrev pub same_reason : Option Reason → Option Reason → Bool
same_reason a b = rank_of a == rank_of b

-- The limit that an operation meets.
abbrev pub limit_met : {A : Type 0} → Result A Limit → Option Reason
limit_met (Ok result) = None
limit_met (Err limit) = Some (reason_of limit)

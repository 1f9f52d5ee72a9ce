-- Limits as reasons.
use Rattle.poly_model.specs.declared.limits.Limit.{Limit}
use Rattle.poly_model.specs.declared.limits.Limit.TheVariants as limit
use Rattle.poly_model.specs.declared.limits.Reason.{Reason}
use Rattle.poly_model.specs.declared.limits.Reason.TheVariants as reason

-- The limit as a reason.
abbrev pub reason_of : Limit → Reason
reason_of limit.Degree = reason.Degree
reason_of limit.Bound = reason.Bound
reason_of limit.Terms = reason.Terms

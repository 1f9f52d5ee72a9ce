-- What a call answers: what bounded arithmetic gives, or the limit that it meets first, unless memory ran out.
use Rattle.std.specs.Prelude.{◌≡◌, Result, Ok, Err}
use Rattle.poly_model.specs.Polynomial.{Polynomial}
use Rattle.poly_model.specs.Bounded.{bounded_sum, bounded_difference, bounded_product}
use Rattle.poly_model.specs.declared.limits.Limit.{Limit}
use Rattle.ratio_eq.specs.declared.arith.Operation.{Operation}
use Rattle.ratio_eq.specs.declared.arith.Operation.TheVariants as operation
use Rattle.ratio_eq.specs.declared.fault.RatioFault.{RatioFault}
use Rattle.ratio_eq.specs.declared.fault.RatioFault.TheVariants as fault

abbrev pub Fails : {Y : Type 0} → RatioFault → Result Y Limit → Type 0
Fails fault.OutOfMemory meant = Unit {0}
Fails (fault.Limit l) meant = meant ≡ Err l

abbrev pub Gives : {X Y : Type 0} → (X → Y) → Result X RatioFault → Result Y Limit → Type 0
Gives view (Ok x) meant = meant ≡ Ok (view x)
Gives view (Err e) meant = Fails e meant

abbrev pub same : {X : Type 0} → X → X
same x = x

-- The result of combining two polynomials within the limits.
abbrev pub bounded_by : Operation → Polynomial → Polynomial → Result Polynomial Limit
bounded_by operation.Sum p q = bounded_sum p q
bounded_by operation.Difference p q = bounded_difference p q
bounded_by operation.Product p q = bounded_product p q

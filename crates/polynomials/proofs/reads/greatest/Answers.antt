use Rattle.std.proofs.Common.{◌≡◌, ◌+◌, ◌-◌, drop, ◌∙◌, ap, arith}
use Rattle.poly_model.specs.Reduction.{monomial_class}
use Rattle.polynomials.proofs.Reading as reading
use Rattle.polynomials.proofs.reads.greatest.Goals as goal

pub loop-i-init : goal.loop-i-init
loop-i-init c = record { within = omega arith; none = c.end_of_used-i.ensures.unused }

pub returns-then-exps-i-ne0 : goal.returns-then-exps-i-ne0
returns-then-exps-i-ne0 c =
    let i = c.loop-i.i - 1 in
    let step : i + 1 ≡ c.loop-i.i = omega arith in
    reading.class-found i c.args.exps.now (omega arith) c.if-exps-i-ne0.true (ap (λ k. monomial_class (drop k c.args.exps.now)) step ∙ c.loop-i.invariant.none)

use Rattle.std.proofs.Common.{◌≡◌, ◌+◌, ℕ, length, ◌∙◌, ap, subst, false, ◌||◌}
use Rattle.std.specs.Prelude.{ℤ}
use Rattle.poly_model.specs.Polynomial.{Polynomial}
use Rattle.poly_model.specs.Reduction.{reduction_of}
use Rattle.proof_steps.specs.Numbers.{item, has, replaced}
use Rattle.proof_steps.specs.Rules.{is_short, reduced, is_valid, limit_of, after}
use Rattle.proof_steps.specs.declared.piece.Node.{Node}
use Rattle.proof_steps.specs.declared.step.Attempt.TheVariants as attempt
use Rattle.log_checker.specs.Trials.{Tries}
use Rattle.log_checker.specs.declared.rules.Trial.{Trial}
use Rattle.log_checker.proofs.Fitness as fitness
use Rattle.log_checker.proofs.open.red_reason.Goals as goal

abbrev Reds : ℕ → Node → (g f : ℕ) → Trial (ℤ × Polynomial) → Type 0
Reds version n g f t = Tries (is_valid version n (attempt.Red g f)) (limit_of version n (attempt.Red g f)) (λ r. r ≡ reduction_of (item n.eqs g) (item n.eqs f)) t

pub returns-in-Invalid : goal.returns-in-Invalid
returns-in-Invalid g c version = subst (Reds version c.args.node.now c.args.g c.args.f) c.in-Invalid.is (c.in_ok-try_red.ensures version)

pub returns-in-Stopped : goal.returns-in-Stopped
returns-in-Stopped g c version =
    let d = subst (Reds version c.args.node.now c.args.g c.args.f) c.in-Stopped.is (c.in_ok-try_red.ensures version) in
    (d.0, fitness.limit-stop _ _ c.in-Stopped.reason d.1)

pub with_equation-requires : goal.with_equation-requires
with_equation-requires g c =
    let d = subst (Reds 1 c.args.node.now c.args.g c.args.f) c.in-Gives.is (c.in_ok-try_red.ensures 1) in
    ap (λ (m : Node). has m.eqs c.args.g) c.in_ok-copied-in-Gives.ensures ∙ fitness.valid-has 1 c.args.node.now c.args.g c.args.f d.0

pub returns-in_ok-copied-in-Gives : goal.returns-in_ok-copied-in-Gives
returns-in_ok-copied-in-Gives g c version =
    let n = c.args.node.now in
    let d = subst (Reds version n c.args.g c.args.f) c.in-Gives.is (c.in_ok-try_red.ensures version) in
    let m = reduced n c.args.g c.args.f in (
      d.0,
      fitness.fuel-stop (limit_of version n (attempt.Red c.args.g c.args.f)) (is_short m || false) c.is_none.result c.shortage.result d.1
          (fitness.none-is _ _ c.is_none.ensures ∙ fitness.made-short c.with_equation.result m c.with_fuel-made.result c.with_fuel-made.ensures
          (c.with_equation.ensures ∙ (λ i. after (c.in_ok-copied-in-Gives.ensures i) (replaced (c.in_ok-copied-in-Gives.ensures i).eqs c.args.g (d.2 i).1) (1 + length (d.2 i).1))))
          c.shortage.ensures,
    )

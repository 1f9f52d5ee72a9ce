use Rattle.std.proofs.Common.{◌≡◌, ◌+◌, ℕ, length, ◌∙◌, ap, subst, refl, true, false, ◌||◌}
use Rattle.std.specs.Prelude.{Option, None, MatchOption}
use Rattle.std.proofs.lemmas.Bool.{and_parts}
use Rattle.poly_model.specs.Polynomial.{Polynomial}
use Rattle.poly_model.specs.Reduction.{primitive_tail}
use Rattle.proof_steps.specs.Numbers.{item, has, replaced}
use Rattle.proof_steps.specs.Rules.{is_short, cut, is_valid, after}
use Rattle.proof_steps.specs.declared.piece.Node.{Node}
use Rattle.proof_steps.specs.declared.step.Attempt.TheVariants as attempt
use Rattle.log_checker.proofs.Fitness as fitness
use Rattle.log_checker.proofs.open.tail_reason.Goals as goal

abbrev Tailed : ℕ → Node → ℕ → Option Polynomial → Type 0
Tailed version n f o = MatchOption o (is_valid version n (attempt.Tail f) ≡ false) (λ r. (is_valid version n (attempt.Tail f) ≡ true) × (r ≡ primitive_tail (item n.eqs f)))

pub returns-in-None : goal.returns-in-None
returns-in-None g c version = subst (Tailed version c.args.node.now c.args.f) c.in-None.is (c.in_ok-try_tail.ensures version)

pub with_equation-requires : goal.with_equation-requires
with_equation-requires g c =
    let d = subst (Tailed 1 c.args.node.now c.args.f) c.in-Some.is (c.in_ok-try_tail.ensures 1) in
    ap (λ (m : Node). has m.eqs c.args.f) c.in_ok-copied-in-Some.ensures ∙ (and_parts (has c.args.node.now.eqs c.args.f) _ d.0).0

pub returns-in_ok-copied-in-Some : goal.returns-in_ok-copied-in-Some
returns-in_ok-copied-in-Some g c version =
    let n = c.args.node.now in
    let d = subst (Tailed version n c.args.f) c.in-Some.is (c.in_ok-try_tail.ensures version) in
    let m = cut n c.args.f in (
      d.0,
      fitness.fuel-stop None (is_short m || false) c.is_none.result c.shortage.result refl
          (fitness.none-is _ _ c.is_none.ensures ∙ fitness.made-short c.with_equation.result m c.with_fuel-made.result c.with_fuel-made.ensures
          (c.with_equation.ensures ∙ (λ i. after (c.in_ok-copied-in-Some.ensures i) (replaced (c.in_ok-copied-in-Some.ensures i).eqs c.args.f (d.1 i)) (1 + length (d.1 i)))))
          c.shortage.ensures,
    )

use Rattle.std.proofs.Common.{◌≡◌, ℕ, ◌+◌, length, ◌∙◌, ap, sym, subst, refl, true, false}
use Rattle.std.specs.Prelude.{Option, Some, None, MatchOption}
use Rattle.std.proofs.lemmas.Bool.{and_parts, not-false, not-true}
use Rattle.poly_model.specs.Polynomial.{Polynomial}
use Rattle.poly_model.specs.Reduction.{same, primitive_tail}
use Rattle.proof_steps.specs.Numbers.{item, has, replaced}
use Rattle.proof_steps.specs.Rules.{cut, is_valid, after, tells_result}
use Rattle.proof_steps.specs.declared.piece.Node.{Node}
use Rattle.proof_steps.specs.declared.step.Attempt.TheVariants as attempt
use Rattle.proof_steps.specs.declared.step.Step.TheVariants as step
use Rattle.log_checker.proofs.Fitness as fitness
use Rattle.log_checker.proofs.rows.tail_row.Goals as goal

abbrev Tailed : ℕ → Node → ℕ → Option Polynomial → Type 0
Tailed version n f o = MatchOption o (is_valid version n (attempt.Tail f) ≡ false) (λ r. (is_valid version n (attempt.Tail f) ≡ true) × (r ≡ primitive_tail (item n.eqs f)))

none : (version : ℕ) (n : Node) (f : ℕ) (o : Option Polynomial) → Tailed version n f o → ((r : Polynomial) → o ≡ Some r → ⊥) → is_valid version n (attempt.Tail f) ≡ false
none version n f None h apart = h
none version n f (Some r) h apart = absurd (apart r refl)

pub returns-in_default : goal.returns-in_default
returns-in_default g c version =
    let n = c.args.node in
    fitness.invalid (is_valid version n (attempt.Tail c.args.f)) _ (tells_result n (step.Tail c.args.f c.args.r)) (cut n c.args.f)
    (none version n c.args.f c.in_ok-tail.field-0 (c.in_ok-tail.ensures version) c.in_default.not-Some)

pub returns-then-ne : goal.returns-then-ne
returns-then-ne g c version =
    let n = c.args.node in
    let d = subst (Tailed version n c.args.f) c.in-Some.is (c.in_ok-tail.ensures version) in
    fitness.untold _ (tells_result n (step.Tail c.args.f c.args.r)) (cut n c.args.f) (sym (ap (same c.args.r) d.1) ∙ not-true _ (sym c.ne.ensures ∙ c.if-ne.true))

pub with_equation-requires : goal.with_equation-requires
with_equation-requires g c =
    let n = c.args.node in
    let d = subst (Tailed 1 n c.args.f) c.in-Some.is (c.in_ok-tail.ensures 1) in
    (and_parts (has n.eqs c.args.f) _ d.0).0

pub returns : goal.returns
returns g c version =
    let n = c.args.node in
    let d = subst (Tailed version n c.args.f) c.in-Some.is (c.in_ok-tail.ensures version) in
    c.with_fuel.ensures
    ∙ fitness.settled c.with_equation.result (cut n c.args.f) (c.with_equation.ensures ∙ ap (λ y. after n (replaced n.eqs c.args.f y) (1 + length y)) d.1)
    ∙ fitness.done (is_valid version n (attempt.Tail c.args.f)) None _ _ (cut n c.args.f) d.0 refl
    (sym (ap (same c.args.r) d.1) ∙ not-false _ (sym c.ne.ensures ∙ c.if-ne.false))

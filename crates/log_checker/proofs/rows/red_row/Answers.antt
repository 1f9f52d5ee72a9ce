use Rattle.std.proofs.Common.{ℕ, ◌+◌, length, ◌∙◌, ap, sym, Bool, ◌&&◌}
use Rattle.std.specs.Prelude.{ℤ}
use Rattle.std.specs.Ordering.{int_eq}
use Rattle.std.proofs.lemmas.Bool.{and_parts}
use Rattle.poly_model.specs.Polynomial.{Polynomial}
use Rattle.poly_model.specs.Equality.{same-is}
use Rattle.poly_model.specs.Reduction.{reduction_of, same}
use mir.Syntax.{w128}
use Rattle.std.proofs.lemmas.Int.{to_z-of_z}
use Rattle.proof_steps.specs.Numbers.{item, replaced}
use Rattle.proof_steps.specs.Rules.{reduced, is_valid, limit_of, after, tells_result}
use Rattle.proof_steps.specs.declared.piece.Node.{Node}
use Rattle.proof_steps.specs.declared.step.Attempt.TheVariants as attempt
use Rattle.proof_steps.specs.declared.step.Step.TheVariants as step
use Rattle.log_checker.specs.Trials.{reduces_to}
use Rattle.log_checker.proofs.Fitness as fitness
use Rattle.log_checker.proofs.rows.red_row.Goals as goal

abbrev fits : ℕ → Node → (g f : ℕ) → ℤ → Polynomial → Bool
fits version n g f m r = is_valid version n (attempt.Red g f) && reduces_to (item n.eqs g) (item n.eqs f) m r

pub returns-then-not-branch : goal.returns-then-not-branch
returns-then-not-branch g c version =
    let n = c.args.node in
    let told = sym (ap (λ m. fits version n c.args.g c.args.f m c.args.r) (to_z-of_z w128 c.args.m c.ranges.m)) ∙ sym (c.in_ok-is_red.ensures version) ∙ c.if-not-branch.true in
    fitness.unfit (is_valid version n (attempt.Red c.args.g c.args.f)) (limit_of version n (attempt.Red c.args.g c.args.f)) _ (tells_result n (step.Red c.args.g c.args.f c.args.m c.args.r)) (reduced n c.args.g c.args.f) told

pub with_equation-requires : goal.with_equation-requires
with_equation-requires g c =
    let n = c.args.node in
    let told = sym (ap (λ m. fits 1 n c.args.g c.args.f m c.args.r) (to_z-of_z w128 c.args.m c.ranges.m)) ∙ sym (c.in_ok-is_red.ensures 1) ∙ c.if-not-branch.false in
    let h = fitness.all-fit (is_valid 1 n (attempt.Red c.args.g c.args.f)) (limit_of 1 n (attempt.Red c.args.g c.args.f)) (tells_result n (step.Red c.args.g c.args.f c.args.m c.args.r)) told in
    fitness.valid-has 1 n c.args.g c.args.f h.valid

pub returns : goal.returns
returns g c version =
    let n = c.args.node in
    let r = reduction_of (item n.eqs c.args.g) (item n.eqs c.args.f) in
    let told = sym (ap (λ m. fits version n c.args.g c.args.f m c.args.r) (to_z-of_z w128 c.args.m c.ranges.m)) ∙ sym (c.in_ok-is_red.ensures version) ∙ c.if-not-branch.false in
    let h = fitness.all-fit (is_valid version n (attempt.Red c.args.g c.args.f)) (limit_of version n (attempt.Red c.args.g c.args.f)) (tells_result n (step.Red c.args.g c.args.f c.args.m c.args.r)) told in
    let same-rest = same-is c.args.r r.1 (and_parts (int_eq c.args.m r.0) (same c.args.r r.1) h.tells).1 in
    c.with_fuel.ensures
    ∙ fitness.settled c.with_equation.result (reduced n c.args.g c.args.f) (c.with_equation.ensures ∙ ap (λ p. after n (replaced n.eqs c.args.g p) (1 + length p)) same-rest)
    ∙ fitness.done (is_valid version n (attempt.Red c.args.g c.args.f)) (limit_of version n (attempt.Red c.args.g c.args.f)) _ _ (reduced n c.args.g c.args.f) h.valid h.limit h.tells

use Rattle.std.proofs.Common.{◌∙◌, ap, sym, not}
use Rattle.poly_model.specs.Reduction.{is_constant, has_polynomial, primitive_initial, primitive_tail}
use Rattle.proof_steps.specs.Numbers.{item, has}
use Rattle.log_checker.proofs.Trying as trying
use Rattle.log_checker.proofs.rules.try_tail.Goals as goal

pub returns-then-not-is_member : goal.returns-then-not-is_member
returns-then-not-is_member g c version =
    trying.last-false (has c.args.node.now.eqs c.args.f) (not (is_constant (item c.args.node.now.eqs c.args.f))) _
    (sym (c.is_member.ensures ∙ λ i. has_polynomial (c.as_slice.ensures i) ((c.in_ok-initial.ensures.ok ∙ ap primitive_initial c.in-Some.ensures.2) i)) ∙ c.if-not-is_member.true)

pub returns : goal.returns
returns g c version = (
  trying.last-true (has c.args.node.now.eqs c.args.f) (not (is_constant (item c.args.node.now.eqs c.args.f))) _ c.in-Some.ensures.0
      (sym (c.is_member.ensures ∙ λ i. has_polynomial (c.as_slice.ensures i) ((c.in_ok-initial.ensures.ok ∙ ap primitive_initial c.in-Some.ensures.2) i)) ∙ c.if-not-is_member.false),
  c.in_ok-tail.ensures.ok ∙ ap primitive_tail c.in-Some.ensures.2,
)

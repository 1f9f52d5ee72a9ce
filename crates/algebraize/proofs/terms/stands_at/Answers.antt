use Rattle.std.proofs.Common.{sym, ◌∙◌, ap, arith}
use Rattle.algebraize.proofs.Changes as changes
use Rattle.std.specs.Ordering.{is_eq}
use Rattle.algebraize.proofs.terms.stands_at.Goals as goal

pub returns-then-place-terms : goal.returns-then-place-terms
returns-then-place-terms c = (
  (λ t. changes.stands-here c.args.exps.now c.args.terms.now c.args.place _ c.if-place-terms.true (sym c.compare_monomials.ensures ∙ changes.equal-from _ (sym c.is_eq.ensures ∙ t))),
  (λ stands. c.is_eq.ensures ∙ ap is_eq (c.compare_monomials.ensures ∙ changes.equal-here c.args.exps.now c.args.terms.now c.args.place _ stands)),
)

pub returns-else-place-terms : goal.returns-else-place-terms
returns-else-place-terms c = (
  (λ t. absurd (changes.not-below _ _ c.if-place-terms.false t)),
  (λ stands. absurd (let below = changes.stands-below c.args.exps.now c.args.terms.now c.args.place stands in omega (arith, c.if-place-terms.false, below))),
)

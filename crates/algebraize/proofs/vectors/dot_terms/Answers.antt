use Rattle.std.proofs.Common.{sym, ◌∙◌, ap, subst, arith}
use Rattle.poly_model.specs.Polynomial.{poly_sum}
use Rattle.poly_model.specs.Standard.{polynomial_of}
use Rattle.algebraize.specs.Small.{IsSmall}
use Rattle.algebraize.proofs.Changes.{if_ok}
use Rattle.algebraize.proofs.Small as small
use Rattle.algebraize.proofs.vectors.dot_terms.Goals as goal

pub returns-clause-small : goal.returns-clause-small
returns-clause-small c =
    let first = ap polynomial_of c.deref-5.ensures.value in
    let second = ap polynomial_of c.deref-6.ensures.value in
    if_ok c.sum.result
    (λ r is. subst (IsSmall 2 32) (sym (is ∙ (λ i. poly_sum (first i) (second i))))
    (small.small-sum 2 16 16 _ _ (omega arith) (omega arith) c.in_ok-first.ensures.small c.in_ok-second.ensures.small))
    c.sum.ensures

use Rattle.std.proofs.Common.{sym, ◌∙◌, ap, subst, arith}
use Rattle.poly_model.specs.Polynomial.{poly_sum, poly_difference}
use Rattle.poly_model.specs.Standard.{polynomial_of}
use Rattle.algebraize.specs.Small.{weight, IsSmall}
use Rattle.algebraize.proofs.Changes.{if_ok}
use Rattle.algebraize.proofs.Small as small
use Rattle.algebraize.proofs.vectors.midpoint_part.Goals as goal

pub difference-requires : goal.difference-requires
difference-requires c =
    let x = polynomial_of c.args.x.now in
    let twice = ap polynomial_of c.deref.ensures.value ∙ c.in_ok-twice.ensures in
    omega (arith, ap weight twice, small.weight-sum x x, c.requires.x.weight, c.requires.a.weight)

pub difference-requires-2 : goal.difference-requires-2
difference-requires-2 c =
    let x = polynomial_of c.args.x.now in
    let a = polynomial_of c.args.a.now in
    let twice = ap polynomial_of c.deref.ensures.value ∙ c.in_ok-twice.ensures in
    let without_a = ap polynomial_of c.deref-2.ensures.value ∙ c.in_ok-without_a.ensures ∙ ap (λ p. poly_difference p a) twice in
    omega (arith, ap weight without_a, small.weight-difference (poly_sum x x) a, small.weight-sum x x, c.requires.x.weight, c.requires.a.weight, c.requires.b.weight)

pub returns-clause-small : goal.returns-clause-small
returns-clause-small c =
    let x = polynomial_of c.args.x.now in
    let a = polynomial_of c.args.a.now in
    let b = polynomial_of c.args.b.now in
    let twice = ap polynomial_of c.deref.ensures.value ∙ c.in_ok-twice.ensures in
    let without_a = ap polynomial_of c.deref-2.ensures.value ∙ c.in_ok-without_a.ensures ∙ ap (λ p. poly_difference p a) twice in
    if_ok c.difference-2.result
    (λ r is. subst (IsSmall 1 4) (sym (is ∙ ap (λ p. poly_difference p b) without_a))
    (small.small-difference 1 3 1 (poly_difference (poly_sum x x) a) b (omega arith) (omega arith)
    (small.small-difference 1 2 1 (poly_sum x x) a (omega arith) (omega arith)
    (small.small-sum 1 1 1 x x (omega arith) (omega arith) c.requires.x c.requires.x) c.requires.a) c.requires.b))
    c.difference-2.ensures

use Rattle.std.proofs.Common.{sym, ◌∙◌, ap, subst, arith}
use Rattle.poly_model.specs.Polynomial.{poly_sum, poly_difference}
use Rattle.poly_model.specs.Standard.{polynomial_of}
use Rattle.algebraize.specs.Small.{weight, IsSmall}
use Rattle.algebraize.proofs.Changes.{if_ok}
use Rattle.algebraize.proofs.Small as small
use Rattle.algebraize.proofs.vectors.translation_part.Goals as goal

pub difference-requires-2 : goal.difference-requires-2
difference-requires-2 c =
    let x = polynomial_of c.args.x.now in
    let m = polynomial_of c.args.c.now in
    let moved = ap polynomial_of c.deref.ensures.value ∙ c.in_ok-moved.ensures in
    omega (arith, ap weight moved, small.weight-difference x m, c.requires.x.weight, c.requires.c.weight, c.requires.b.weight)

pub sum-requires : goal.sum-requires
sum-requires c =
    let x = polynomial_of c.args.x.now in
    let m = polynomial_of c.args.c.now in
    let b = polynomial_of c.args.b.now in
    let moved = ap polynomial_of c.deref.ensures.value ∙ c.in_ok-moved.ensures in
    let less = ap polynomial_of c.deref-2.ensures.value ∙ c.in_ok-less.ensures ∙ ap (λ p. poly_difference p b) moved in
    omega (arith, ap weight less, small.weight-difference (poly_difference x m) b, small.weight-difference x m, c.requires.x.weight, c.requires.c.weight, c.requires.b.weight, c.requires.a.weight)

pub returns-clause-small : goal.returns-clause-small
returns-clause-small c =
    let x = polynomial_of c.args.x.now in
    let a = polynomial_of c.args.a.now in
    let b = polynomial_of c.args.b.now in
    let m = polynomial_of c.args.c.now in
    let moved = ap polynomial_of c.deref.ensures.value ∙ c.in_ok-moved.ensures in
    let less = ap polynomial_of c.deref-2.ensures.value ∙ c.in_ok-less.ensures ∙ ap (λ p. poly_difference p b) moved in
    if_ok c.sum.result
    (λ r is. subst (IsSmall 1 4) (sym (is ∙ ap (λ p. poly_sum p a) less))
    (small.small-sum 1 3 1 (poly_difference (poly_difference x m) b) a (omega arith) (omega arith)
    (small.small-difference 1 2 1 (poly_difference x m) b (omega arith) (omega arith)
    (small.small-difference 1 1 1 x m (omega arith) (omega arith) c.requires.x c.requires.c) c.requires.b) c.requires.a))
    c.sum.ensures

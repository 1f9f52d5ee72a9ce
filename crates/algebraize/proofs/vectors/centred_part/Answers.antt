use Rattle.std.proofs.Common.{sym, ◌∙◌, ap, subst, arith}
use Rattle.poly_model.specs.Polynomial.{poly_sum, poly_difference}
use Rattle.poly_model.specs.Standard.{polynomial_of}
use Rattle.algebraize.specs.Small.{weight, IsSmall}
use Rattle.algebraize.proofs.Changes.{if_ok}
use Rattle.algebraize.proofs.Small as small
use Rattle.algebraize.proofs.vectors.centred_part.Goals as goal

pub difference-requires : goal.difference-requires
difference-requires c =
    let both = ap polynomial_of c.deref.ensures.value ∙ c.in_ok-both.ensures in
    let twice = ap polynomial_of c.deref-2.ensures.value ∙ c.in_ok-twice.ensures in
    omega (
      arith,
      ap weight both,
      ap weight twice,
      small.weight-sum (polynomial_of c.args.x.now) (polynomial_of c.args.y.now),
      small.weight-sum (polynomial_of c.args.c.now) (polynomial_of c.args.c.now),
      c.requires.x.weight,
      c.requires.y.weight,
      c.requires.c.weight,
    )

pub returns-clause-small : goal.returns-clause-small
returns-clause-small c =
    let both = ap polynomial_of c.deref.ensures.value ∙ c.in_ok-both.ensures in
    let twice = ap polynomial_of c.deref-2.ensures.value ∙ c.in_ok-twice.ensures in
    let x = polynomial_of c.args.x.now in
    let y = polynomial_of c.args.y.now in
    let m = polynomial_of c.args.c.now in
    if_ok c.difference.result
    (λ r is. subst (IsSmall 1 4) (sym (is ∙ (λ i. poly_difference (both i) (twice i))))
    (small.small-difference 1 2 2 (poly_sum x y) (poly_sum m m) (omega arith) (omega arith)
    (small.small-sum 1 1 1 x y (omega arith) (omega arith) c.requires.x c.requires.y)
    (small.small-sum 1 1 1 m m (omega arith) (omega arith) c.requires.c c.requires.c)))
    c.difference.ensures

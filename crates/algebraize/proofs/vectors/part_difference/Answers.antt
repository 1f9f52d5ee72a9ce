use Rattle.std.proofs.Common.{sym, subst, arith}
use Rattle.poly_model.specs.Standard.{polynomial_of}
use Rattle.algebraize.specs.Small.{IsSmall}
use Rattle.algebraize.proofs.Changes.{if_ok}
use Rattle.algebraize.proofs.Small as small
use Rattle.algebraize.proofs.vectors.part_difference.Goals as goal

pub returns-clause-small : goal.returns-clause-small
returns-clause-small c =
    let b = polynomial_of c.args.b.now in
    let a = polynomial_of c.args.a.now in
    if_ok c.difference.result
    (λ r is. subst (IsSmall 1 4) (sym is) (small.small-more 1 1 2 4 _ (omega arith) (omega arith) (small.small-difference 1 1 1 b a (omega arith) (omega arith) c.requires.b c.requires.a)))
    c.difference.ensures

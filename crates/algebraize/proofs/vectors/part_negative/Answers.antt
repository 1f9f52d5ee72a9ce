use Rattle.std.proofs.Common.{sym, subst, arith}
use Rattle.poly_model.specs.Standard.{polynomial_of}
use Rattle.algebraize.specs.Small.{IsSmall}
use Rattle.algebraize.proofs.Changes.{if_ok}
use Rattle.algebraize.proofs.Small as small
use Rattle.algebraize.proofs.vectors.part_negative.Goals as goal

pub returns-clause-small : goal.returns-clause-small
returns-clause-small c =
    if_ok c.negative.result
    (λ r is. subst (IsSmall 1 4) (sym is) (small.small-negative 1 4 (polynomial_of c.args.x.now) (omega arith) (omega arith) c.requires))
    c.negative.ensures

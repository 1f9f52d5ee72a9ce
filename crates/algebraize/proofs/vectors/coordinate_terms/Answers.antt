use Rattle.std.proofs.Common.{sym, subst}
use Rattle.algebraize.specs.Small.{IsSmall}
use Rattle.algebraize.proofs.Changes.{if_ok}
use Rattle.algebraize.proofs.Small as small
use Rattle.algebraize.proofs.vectors.coordinate_terms.Goals as goal

pub returns-in-Variable-clause-small : goal.returns-in-Variable-clause-small
returns-in-Variable-clause-small c =
    if_ok c.variable.result (λ r is. subst (IsSmall 1 1) (sym is) (small.small-variable c.in-Variable.place)) c.variable.ensures

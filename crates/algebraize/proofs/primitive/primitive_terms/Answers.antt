use Rattle.std.proofs.Common.{◌<◌, sym, subst}
use Rattle.poly_model.specs.declared.limits.TheConstants.{MOST_VARIABLES}
use Rattle.algebraize.proofs.Changes.{divisor-positive}
use Rattle.algebraize.proofs.primitive.primitive_terms.Goals as goal

pub all_divided-requires-clause-divisor : goal.all_divided-requires-clause-divisor
all_divided-requires-clause-divisor c =
    subst (λ g. 0 < g) (sym c.common_divisor.ensures) (divisor-positive MOST_VARIABLES c.args.terms.now _ c.in-Some.first.now c.requires.descending c.in-Some.ensures.cases.0)

use Rattle.std.proofs.Common.{sym, subst, arith}
use Rattle.poly_model.specs.Standard.{polynomial_of}
use Rattle.poly_model.specs.declared.limits.TheConstants.{MOST_DEGREE, MOST_SIZE}
use Rattle.algebraize.specs.Small.{IsSmall}
use Rattle.algebraize.proofs.Small as small
use Rattle.algebraize.proofs.vectors.Vector.first.Goals as goal

pub primitive_part-requires : goal.primitive_part-requires
primitive_part-requires c =
    subst (λ l. IsSmall MOST_DEGREE MOST_SIZE (polynomial_of l)) (sym c.deref.ensures.value) (small.small-more 1 MOST_DEGREE 4 MOST_SIZE _ (omega arith) (omega arith) c.self.invariant.0)

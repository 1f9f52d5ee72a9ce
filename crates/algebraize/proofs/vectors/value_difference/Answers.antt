use Rattle.std.proofs.Common.{sym, subst, arith}
use Rattle.poly_model.specs.Standard.{polynomial_of}
use Rattle.algebraize.specs.Small.{IsSmall}
use Rattle.algebraize.proofs.Small as small
use Rattle.algebraize.proofs.vectors.value_difference.Goals as goal

pub invariant_of-result : goal.invariant_of-result
invariant_of-result c =
    subst (IsSmall 2 64) (sym c.in_ok-difference.ensures)
    (small.small-difference 2 32 32 (polynomial_of c.args.p.now) (polynomial_of c.args.q.now) (omega arith) (omega arith) c.requires.p c.requires.q)

use Rattle.std.proofs.Common.{ap, arith}
use Rattle.poly_model.specs.Standard.{polynomial_of}
use Rattle.algebraize.specs.Small.{weight}
use Rattle.algebraize.proofs.Small as small
use Rattle.algebraize.proofs.terms.difference.Goals as goal

pub sum_onto-requires : goal.sum_onto-requires
sum_onto-requires c = omega (arith, ap weight c.in_ok-negative.ensures, small.weight-negative (polynomial_of c.args.q.now), c.requires)

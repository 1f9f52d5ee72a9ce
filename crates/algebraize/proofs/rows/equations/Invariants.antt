use Rattle.std.proofs.Common.{◌≡◌, ◌++◌, map, length}
use Rattle.poly_model.specs.Content.{primitive_part}
use Rattle.algebraize.proofs.rows.equations.Given as goal

abbrev pub invariant-loop-expression : goal.invariant-loop-expression
invariant-loop-expression l = l.equations.items ++ map primitive_part l.rest ≡ map primitive_part l.fn.expressions

abbrev pub decreases-loop-expression : goal.decreases-loop-expression
decreases-loop-expression l = length l.rest

use Rattle.std.proofs.Common.{◌≡◌, length}
use Rattle.poly_model.specs.Standard.{polynomial_of, are_descending}
use Rattle.poly_model.proofs.term.are_standard.Given as goal

abbrev pub invariant-loop-first : goal.invariant-loop-first
invariant-loop-first l = are_descending (polynomial_of l.fn.terms) ≡ are_descending (polynomial_of l.rest)

abbrev pub decreases-loop-first : goal.decreases-loop-first
decreases-loop-first l = length l.rest

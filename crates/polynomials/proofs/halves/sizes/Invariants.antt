use Rattle.std.proofs.Common.{◌≡◌, ◌+◌, drop}
use Rattle.poly_model.specs.Standard.{polynomial_of}
use Rattle.polynomials.specs.Sizes.{sizes_of}
use Rattle.polynomials.proofs.halves.sizes.Given as goal

abbrev pub invariant-loop-term : goal.invariant-loop-term
invariant-loop-term l = l.sum + sizes_of (polynomial_of (drop l.term-index l.terms)) ≡ sizes_of (polynomial_of l.terms)

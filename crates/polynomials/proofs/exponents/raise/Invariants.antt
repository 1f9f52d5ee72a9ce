use Rattle.std.proofs.Common.{◌≡◌}
use Rattle.polynomials.proofs.Raising.{raised_first}
use Rattle.polynomials.proofs.exponents.raise.Given as goal

abbrev pub invariant-loop-i : goal.invariant-loop-i
invariant-loop-i l = l.highest ≡ raised_first l.i l.fn.highest l.exps

use Rattle.std.proofs.Common.{◌≡◌}
use Rattle.poly_model.proofs.Adding.{added_first}
use Rattle.poly_model.proofs.term.exponents_sum.Given as goal

abbrev pub invariant-loop-i : goal.invariant-loop-i
invariant-loop-i l = l.sum ≡ added_first l.i l.a l.b

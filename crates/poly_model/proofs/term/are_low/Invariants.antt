use Rattle.std.proofs.Common.{◌≡◌, ◌&&◌, nat_le, drop}
use Rattle.poly_model.specs.declared.limits.TheConstants.{MOST_DEGREE}
use Rattle.poly_model.specs.Standard.{are_low}
use Rattle.poly_model.proofs.term.are_low.Given as goal

abbrev pub invariant-loop-e : goal.invariant-loop-e
invariant-loop-e l = (nat_le l.highest MOST_DEGREE && are_low (drop l.e-index l.exps)) ≡ are_low l.exps

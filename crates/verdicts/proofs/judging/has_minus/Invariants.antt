use Rattle.std.proofs.Common.{◌≡◌, drop}
use Rattle.verdicts.specs.Verdicts.{has_minus}
use Rattle.verdicts.proofs.judging.has_minus.Given as goal

abbrev pub invariant-loop-i : goal.invariant-loop-i
invariant-loop-i l = has_minus l.path ≡ has_minus (drop l.i l.path)

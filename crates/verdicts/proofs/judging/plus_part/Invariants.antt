use Rattle.std.proofs.Common.{◌≡◌, ◌++◌, drop, length}
use Rattle.verdicts.specs.Verdicts.{plus_part}
use Rattle.verdicts.proofs.judging.plus_part.Given as goal

abbrev pub invariant-loop-i : goal.invariant-loop-i
invariant-loop-i l = (length l.part ≡ l.i) × (plus_part l.path ≡ l.part ++ plus_part (drop l.i l.path))

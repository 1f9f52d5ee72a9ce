use Rattle.std.proofs.Common.{◌≡◌, ◌≤◌, ◌+◌, ◌*◌, ◌++◌, take, drop}
use Rattle.poly_text.specs.Text.{factors_text}
use Rattle.poly_text.specs.declared.room.TheConstants.{FRONT, MOST_FACTOR}
use Rattle.poly_text.proofs.room.put_factors.Given as goal

abbrev pub invariant-loop-i : goal.invariant-loop-i
invariant-loop-i l = record {
  within : l.n ≤ FRONT + MOST_FACTOR * l.i;
  text : take l.n l.room ++ factors_text l.joined (drop l.i l.vars) (drop l.i l.exps) ≡ take l.fn.n l.fn.room ++ factors_text l.fn.joined l.vars l.exps;
}

use Rattle.std.proofs.Common.{◌≡◌, ◌&&◌, ◌+◌, ◌≤◌, length}
use Rattle.poly_model.specs.Names.{are_numbered, count_from, is_parameter, is_dependent, numbers_of}
use Rattle.poly_model.specs.declared.limits.TheConstants.{MOST_VARIABLES}
use Rattle.poly_model.proofs.vars.are_numbered.Given as goal

abbrev pub invariant-loop-name : goal.invariant-loop-name
invariant-loop-name l = record {
  u_within : l.u + length l.rest ≤ MOST_VARIABLES + 1;
  x_within : l.x + length l.rest ≤ MOST_VARIABLES + 1;
  left : are_numbered l.fn.names ≡ (count_from l.u (numbers_of is_parameter l.rest) && count_from l.x (numbers_of is_dependent l.rest));
}

abbrev pub decreases-loop-name : goal.decreases-loop-name
decreases-loop-name l = length l.rest

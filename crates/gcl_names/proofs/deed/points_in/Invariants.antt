use Rattle.std.proofs.Common.{◌≡◌, ◌++◌, length}
use Rattle.gcl_names.specs.Deed.{points_in}
use Rattle.gcl_names.proofs.deed.points_in.Given as goal

abbrev pub invariant-loop-rest : goal.invariant-loop-rest
invariant-loop-rest l = l.points.items ++ points_in l.rest ≡ points_in l.fn.refs

abbrev pub decreases-loop-rest : goal.decreases-loop-rest
decreases-loop-rest l = length l.rest

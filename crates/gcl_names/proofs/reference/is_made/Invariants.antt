use Rattle.std.proofs.Common.{◌≡◌, length}
use Rattle.gcl_names.specs.Reference.{is_made}
use Rattle.gcl_names.proofs.reference.is_made.Given as goal

abbrev pub invariant-loop-rest_parameters : goal.invariant-loop-rest_parameters
invariant-loop-rest_parameters l = is_made l.name l.rest_parameters l.rest_args ≡ is_made l.name l.fn.parameters l.fn.args

abbrev pub decreases-loop-rest_parameters : goal.decreases-loop-rest_parameters
decreases-loop-rest_parameters l = length l.rest_parameters

use Rattle.std.proofs.Common.{◌≡◌, ◌+◌, ◌*◌, ◌<◌, ◌^◌, length}
use Rattle.gcl_names.specs.Program.{acts_in}
use Rattle.gcl_names.proofs.Front.{behind}
use Rattle.gcl_names.proofs.resolution.acts_in.Given as goal

abbrev pub invariant-loop-rest : goal.invariant-loop-rest
invariant-loop-rest l = record {
  lines : l.scope.lines + 4 * length l.rest < 2 ^ 30;
  circles : l.scope.circles + 4 * length l.rest < 2 ^ 30;
  resolved : behind l.acts.items (acts_in l.rest l.scope) ≡ acts_in l.fn.commands l.fn.scope;
}

abbrev pub decreases-loop-rest : goal.decreases-loop-rest
decreases-loop-rest l = length l.rest

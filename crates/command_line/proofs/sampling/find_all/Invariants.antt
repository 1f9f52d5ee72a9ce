use Rattle.std.proofs.Common.{◌≡◌, ◌++◌, length, All}
use Rattle.prove_run.specs.Whole.{HasCounts}
use Rattle.command_line.specs.Samples.{all_found}
use Rattle.command_line.proofs.sampling.find_all.Given as goal

abbrev pub invariant-loop-proof : goal.invariant-loop-proof
invariant-loop-proof l = record {
  value : l.all.items ++ all_found l.rest ≡ all_found l.fn.proofs;
  counts : All HasCounts l.rest;
}

abbrev pub decreases-loop-proof : goal.decreases-loop-proof
decreases-loop-proof l = length l.rest

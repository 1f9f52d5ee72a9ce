use Rattle.std.proofs.Common.{◌≡◌, length}
use Rattle.command_line.specs.Proving.{status_of}
use Rattle.command_line.proofs.proving.status_of.Given as goal

abbrev pub invariant-loop-proof : goal.invariant-loop-proof
invariant-loop-proof l = status_of l.rest ≡ status_of l.fn.proofs

abbrev pub decreases-loop-proof : goal.decreases-loop-proof
decreases-loop-proof l = length l.rest

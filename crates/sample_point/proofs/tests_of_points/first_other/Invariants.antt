use Rattle.std.proofs.Common.{◌≡◌, ◌≤◌, ◌+◌, length}
use Rattle.sample_point.specs.Sampling.{first_other}
use Rattle.sample_point.proofs.tests_of_points.first_other.Given as goal

abbrev pub invariant-loop-rest : goal.invariant-loop-rest
invariant-loop-rest l = record {
  value : first_other l.point l.number l.rest ≡ first_other l.fn.point l.fn.k l.fn.cons;
  few : l.number + length l.rest ≤ 255;
}

abbrev pub decreases-loop-rest : goal.decreases-loop-rest
decreases-loop-rest l = length l.rest

use Rattle.std.proofs.Common.{◌≡◌, ◌+◌, length}
use Rattle.log_checker.proofs.Passes.{Passed}
use Rattle.log_checker.proofs.checking.check_bytes.Given as goal

abbrev pub invariant-loop-rest : goal.invariant-loop-rest
invariant-loop-rest l = record {
  count : l.reader.fed + length l.rest ≡ length l.bytes;
  passed : Passed l.bytes l.rest l.reader l.progress l.seen;
}

abbrev pub decreases-loop-rest : goal.decreases-loop-rest
decreases-loop-rest l = length l.rest

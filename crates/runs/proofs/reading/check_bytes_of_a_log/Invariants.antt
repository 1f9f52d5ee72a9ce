use Rattle.std.proofs.Common.{◌≡◌, ◌+◌, length}
use Rattle.runs.proofs.reading.check_bytes_of_a_log.Given as goal

abbrev pub invariant-loop-byte : goal.invariant-loop-byte
invariant-loop-byte l = l.reader.fed + length l.rest ≡ length l.text

abbrev pub decreases-loop-byte : goal.decreases-loop-byte
decreases-loop-byte l = length l.rest

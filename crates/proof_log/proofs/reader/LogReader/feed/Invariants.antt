use Rattle.std.proofs.Common.{◌≡◌, ◌+◌, length}
use Rattle.proof_log.proofs.Pieced.{Sofar}
use Rattle.proof_log.proofs.reader.LogReader.feed.Given as goal

abbrev pub invariant-loop-after : goal.invariant-loop-after
invariant-loop-after l = record {
  count : l.self.fed + length l.rest ≡ l.fn.self.fed + length l.piece;
  sofar : Sofar l.fn.self l.fn.lines.items l.piece l.rest l.self l.lines.items;
}

abbrev pub decreases-loop-after : goal.decreases-loop-after
decreases-loop-after l = length l.rest

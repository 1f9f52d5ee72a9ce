use Rattle.std.proofs.Common.{◌≡◌, ◌≤◌, List, ℕ, vec_len, take, ◌-◌}
use Rattle.desk_io.specs.Files.{Holds}
use Rattle.desk_io.proofs.whole.read_whole.Given as goal

-- What was read so far is the front of the file that the desk holds.
abbrev pub invariant-loop-count : goal.invariant-loop-count
invariant-loop-count g l = record {
  same : g.K.Desk.held l.desk ≡ g.K.Desk.held l.fn.desk;
  later : g.K.Desk.faults l.fn.desk ≤ g.K.Desk.faults l.desk;
  fits : vec_len l.bytes ≤ l.most;
  front : (file : List ℕ) → Holds (g.K.Desk.held l.fn.desk) l.name file → l.bytes.items ≡ take (vec_len l.bytes) file;
}

-- Each turn but the last takes at least one byte.
abbrev pub decreases-loop-count : goal.decreases-loop-count
decreases-loop-count g l = l.most - vec_len l.bytes

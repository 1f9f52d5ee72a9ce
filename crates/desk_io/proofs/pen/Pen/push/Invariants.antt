use Rattle.std.proofs.Common.{◌≡◌, ◌≤◌, ◌<◌, ◌⊎◌, ◌+◌, ◌++◌, length, vec_len, vec_capacity}
use Rattle.desk_io.specs.declared.pen.TheConstants.{PEN_ROOM}
use Rattle.desk_io.specs.Bytes.{Grew}
use Rattle.desk_io.proofs.pen.Pen.push.Given as goal

abbrev pub invariant-loop-rest : goal.invariant-loop-rest
invariant-loop-rest g l = record {
  room : vec_len l.self-inside.gathered ≤ PEN_ROOM;
  capacity : PEN_ROOM ≤ vec_capacity l.self-inside.gathered;
  begun : (PEN_ROOM < length l.fn.self + length l.fn.bytes) ⊎ ((l.sink ≡ l.fn.sink) × (l.self-inside.gathered.items ≡ l.fn.self) × (l.rest ≡ l.fn.bytes));
  later : g.S.Sink.faults l.fn.sink ≤ g.S.Sink.faults l.sink;
  out : Grew (g.S.Sink.written l.fn.sink) (g.S.Sink.written l.sink) l.fn.self (l.self-inside.gathered.items ++ l.rest) l.fn.bytes;
}

-- Each turn puts as many of the bytes as there is room for.
abbrev pub decreases-loop-rest : goal.decreases-loop-rest
decreases-loop-rest g l = length l.rest + vec_len l.self-inside.gathered

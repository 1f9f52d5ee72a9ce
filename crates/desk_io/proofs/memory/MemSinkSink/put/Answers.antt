use Rattle.std.proofs.Common.{◌≡◌, ◌-◌, ◌++◌, ℕ, Some, take, drop, arith, sym, ap}
use Rattle.std.proofs.lemmas.List.{take-append-drop}
use Rattle.desk_io.proofs.memory.MemSinkSink.put.Goals as goal

pub returns-then-bytes-room-clause-bytes : goal.returns-then-bytes-room-clause-bytes
returns-then-bytes-room-clause-bytes c =
    let n : ℕ = c.self.inside.room - c.len.result in
    let items : c.extend_from_slice.new.self.items ≡ c.args.self.now.bytes ++ take n c.args.bytes.now = grind arith in
    record {
      front = take n c.args.bytes.now;
      rest = drop n c.args.bytes.now;
      parts = sym (take-append-drop n c.args.bytes.now);
      written = ap Some items;
    }

-- A desk and a sink in memory: their states, and what each call answers and leaves.
use Rattle.std.specs.Prelude.{◌≡◌, ℕ, ◌+◌, ◌-◌, ◌^◌, ◌&&◌, ◌==◌, min, not, nat_le, List, ◌++◌, length, take, drop, Bool, cond, Option, Some, None, Result, Ok, OnOk}
use Rattle.std.specs.List.{list_any}
use Rattle.desk_io.specs.Files.{Files, file_of}

-- A desk: its files, how many bytes a read gives at most, the numbers of the reads that fail, how many reads there were, and
-- how many of them failed by their number.
pub record DeskState : Type 0 where
  pub files : Files
  pub most : ℕ
  pub failing : List ℕ
  pub reads : ℕ
  pub faults : ℕ

-- A sink: what was written, how many bytes there is room for, the numbers of the puts that fail, how many puts there
-- were, and how many of them failed.
pub record SinkState : Type 0 where
  pub bytes : List ℕ
  pub room : ℕ
  pub failing : List ℕ
  pub puts : ℕ
  pub faults : ℕ

-- A count after one more. It stops at the end of its type.
abbrev pub counted : ℕ → ℕ
counted n = min (n + 1) (2 ^ 64 - 1)

-- A count of failures after a call.
abbrev pub counted_if : Bool → ℕ → ℕ
counted_if failed n = cond failed (counted n) n

-- The number stands in the list.
abbrev pub stands_in : ℕ → List ℕ → Bool
stands_in n ns = list_any (λ m. m == n) ns

-- The next read fails by its number; the first one is number 1.
abbrev pub read_fails : DeskState → Bool
read_fails desk = stands_in (counted desk.reads) desk.failing

-- The desk after a read. A name that is missing is no fault of the desk.
abbrev pub after_read : DeskState → DeskState
after_read desk = record desk { reads = counted desk.reads; faults = counted_if (read_fails desk) desk.faults }

-- As many bytes of a file, from an offset on, as there is room for.
abbrev pub bytes_from : ℕ → ℕ → Option (List ℕ) → Option (List ℕ)
bytes_from offset room None = None
bytes_from offset room (Some file) = Some (take room (drop offset file))

-- The bytes that a read gives, or `None` where it fails: by its number, or since there is no such file.
abbrev pub read_bytes : DeskState → List ℕ → ℕ → ℕ → Option (List ℕ)
read_bytes desk name offset room = cond (read_fails desk) None (bytes_from offset (min room desk.most) (file_of desk.files name))

-- What a call that reads answers and leaves in the piece: the bytes stand at its front, and the rest is as before. Where
-- it fails, the piece is as before.
abbrev pub ReadGives : {E : Type 0} → Result ℕ E → List ℕ → List ℕ → Option (List ℕ) → Type 0
ReadGives result before after None = OnOk result ⊥ × (after ≡ before)
ReadGives result before after (Some bytes) = (result ≡ Ok (length bytes)) × (after ≡ bytes ++ drop (length bytes) before)

-- The next put fails by its number; the first one is number 1.
abbrev pub put_fails : SinkState → Bool
put_fails sink = stands_in (counted sink.puts) sink.failing

-- A put succeeds where it does not fail by its number and there is room for all the bytes.
abbrev pub put_succeeds : SinkState → List ℕ → Bool
put_succeeds sink bytes = not (put_fails sink) && nat_le (length sink.bytes + length bytes) sink.room

-- What stands in the sink after a put: nothing more where it fails by its number, else as much as there is room for.
abbrev pub written_after : SinkState → List ℕ → List ℕ
written_after sink bytes = cond (put_fails sink) sink.bytes (sink.bytes ++ take (sink.room - length sink.bytes) bytes)

-- The sink after a put.
abbrev pub after_put : SinkState → List ℕ → SinkState
after_put sink bytes = record sink {
  bytes = written_after sink bytes;
  puts = counted sink.puts;
  faults = counted_if (not (put_succeeds sink bytes)) sink.faults;
}

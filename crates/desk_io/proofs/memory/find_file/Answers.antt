use Rattle.std.proofs.Common.{[], sym, ◌≡◌, ◌∙◌, drop, map, true, false, arith, ap}
use Rattle.std.proofs.lemmas.List.{drop_all}
use Rattle.std.specs.String.{string_bytes}
use Rattle.std.specs.Str.{bytes_eq}
use Rattle.desk_io.specs.Files.{file_of}
use Rattle.desk_io.proofs.Finding.{found_at}
use Rattle.desk_io.proofs.memory.find_file.Goals as goal

pub returns-then-eq : goal.returns-then-eq
returns-then-eq c =
    let e : bytes_eq (string_bytes c.file-item.result.0) c.args.name.now ≡ true = ap (λ l. bytes_eq l c.args.name.now) (sym c.as_str.ensures.value) ∙ sym c.if-eq.ensures in
    let step = found_at (λ file. (string_bytes file.0, file.1.items)) c.args.files.now c.args.name.now c.loop-file.file-index c.file-item.result (omega arith) c.file-item.is in
    c.loop-file.invariant ∙ (rw e at step)

pub loop-file-preserved : goal.loop-file-preserved
loop-file-preserved c =
    let e : bytes_eq (string_bytes c.file-item.result.0) c.args.name.now ≡ false = ap (λ l. bytes_eq l c.args.name.now) (sym c.as_str.ensures.value) ∙ sym c.if-eq.ensures in
    let step = found_at (λ file. (string_bytes file.0, file.1.items)) c.args.files.now c.args.name.now c.loop-file.file-index c.file-item.result (omega arith) c.file-item.is in
    c.loop-file.invariant ∙ (rw e at step)

pub returns : goal.returns
returns c =
    let e : drop c.loop-file.file-index c.args.files.now ≡ [] = drop_all c.loop-file.file-index c.args.files.now (omega arith) in
    c.loop-file.invariant ∙ ap (λ l. file_of (map (λ file. (string_bytes file.0, file.1.items)) l) c.args.name.now) e

use Rattle.std.proofs.Common.{map, ◌≡◌, inr, arith, sym, ◌∙◌, ap}
use Rattle.std.proofs.lemmas.Option.{same_Some}
use Rattle.std.specs.String.{string_bytes}
use Rattle.desk_io.specs.Files.{file_of}
use Rattle.desk_io.proofs.Reading.{reads_file}
use Rattle.desk_io.proofs.memory.MemDeskDesk.read.Goals as goal

pub returns-in_default-clause-cause : goal.returns-in_default-clause-cause
returns-in_default-clause-cause c = inr (grind arith)

pub returns-clause-bytes : goal.returns-clause-bytes
returns-clause-bytes c = λ file holds.
    let m : file_of (map (λ file. (string_bytes file.0, file.1.items)) c.deref-2.result.now) c.args.name.now ≡ file_of c.args.self.now.files c.args.name.now
    = ap (λ l. file_of (map (λ file. (string_bytes file.0, file.1.items)) l) c.args.name.now) c.deref-2.ensures.value
    ∙ ap (λ s. file_of s.files c.args.name.now) c.self.view_is in
    let e : c.in-Some.bytes.now.items ≡ file = same_Some _ _ (sym c.in-Some.ensures ∙ m ∙ same_Some _ _ holds) in
    reads_file c.args.piece.now _ _ file c.args.from _ c.self.inside.most c.self.invariant (c.deref-3.ensures.value ∙ e) c.copy_from.ensures.count c.copy_from.ensures.bytes (omega arith)

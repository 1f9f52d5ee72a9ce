use Rattle.std.proofs.Common.{◌≡◌, map, drop}
use Rattle.std.specs.String.{string_bytes}
use Rattle.desk_io.specs.Files.{file_of}
use Rattle.desk_io.proofs.memory.find_file.Given as goal

abbrev pub invariant-loop-file : goal.invariant-loop-file
invariant-loop-file l =
    file_of (map (λ file. (string_bytes file.0, file.1.items)) l.files) l.name
    ≡ file_of (map (λ file. (string_bytes file.0, file.1.items)) (drop l.file-index l.files)) l.name

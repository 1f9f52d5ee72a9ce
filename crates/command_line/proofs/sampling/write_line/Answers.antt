use Rattle.std.proofs.Common.{◌++◌, codes, decimal, append_assoc, refl}
use Rattle.desk_io.proofs.Growth.{Grew-then}
use Rattle.desk_io.proofs.Writing.{first_failed, next_failed, last_writes}
use Rattle.command_line.specs.Samples.{found_text}
use Rattle.command_line.proofs.sampling.write_line.Goals as goal

pub returns-in_err-write_heading-clause-bytes : goal.returns-in_err-write_heading-clause-bytes
returns-in_err-write_heading-clause-bytes g c =
    let heading = codes "prove " ++ decimal c.args.k ++ codes ": " in
    let told = found_text c.args.found.now in
    first_failed _ _ _ _ _ heading (told ++ codes "\n") _ c.from_residual.ensures.0 c.in_err-write_heading.ensures.bytes
    (append_assoc heading told (codes "\n"))

pub returns-in_err-write_found-clause-bytes : goal.returns-in_err-write_found-clause-bytes
returns-in_err-write_found-clause-bytes g c =
    next_failed _ _ _ _ _ _ _ (codes "prove " ++ decimal c.args.k ++ codes ": ") (found_text c.args.found.now) (codes "\n") _
    c.from_residual-in_err-write_found.ensures.0 c.in_ok-write_heading.ensures.bytes c.in_err-write_found.ensures.bytes refl

pub returns-clause-bytes : goal.returns-clause-bytes
returns-clause-bytes g c =
    last_writes c.push.result _ _ _ _ _ _ (codes "prove " ++ decimal c.args.k ++ codes ": " ++ found_text c.args.found.now) (codes "\n") _
    (Grew-then _ _ _ _ _ _ _ _ c.in_ok-write_heading.ensures.bytes c.in_ok-write_found.ensures.bytes) c.push.ensures.bytes refl

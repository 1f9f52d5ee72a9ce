use Rattle.std.proofs.Common.{◌++◌, codes, decimal, append_assoc, ap, sym}
use Rattle.desk_io.proofs.Growth.{Grew-then}
use Rattle.desk_io.proofs.Writing.{first_failed, next_failed, last_writes}
use Rattle.command_line.specs.Carrying.{carried_word}
use Rattle.command_line.proofs.carried_lines.write_carried_line.Goals as goal

pub returns-in_err-write_heading-clause-bytes : goal.returns-in_err-write_heading-clause-bytes
returns-in_err-write_heading-clause-bytes g c =
    let heading = codes "prove " ++ decimal c.args.k ++ codes ": " in
    let told = carried_word c.args.carried in
    first_failed _ _ _ _ _ heading (told ++ codes "\n") _ c.from_residual.ensures.0 c.in_err-write_heading.ensures.bytes
    (append_assoc heading told (codes "\n"))

pub returns-in_err-push-clause-bytes : goal.returns-in_err-push-clause-bytes
returns-in_err-push-clause-bytes g c =
    let heading = codes "prove " ++ decimal c.args.k ++ codes ": " in
    next_failed _ _ _ _ _ _ _ heading c.word_of.result.now (codes "\n") _
    c.from_residual-in_err-push.ensures.0 c.in_ok-write_heading.ensures.bytes c.in_err-push.ensures.bytes
    (ap (λ w. heading ++ w ++ codes "\n") (sym c.word_of.ensures))

pub returns-clause-bytes : goal.returns-clause-bytes
returns-clause-bytes g c =
    let heading = codes "prove " ++ decimal c.args.k ++ codes ": " in
    last_writes c.push-2.result _ _ _ _ _ _ (heading ++ c.word_of.result.now) (codes "\n") _
    (Grew-then _ _ _ _ _ _ _ _ c.in_ok-write_heading.ensures.bytes c.in_ok-push.ensures.bytes) c.push-2.ensures.bytes
    (ap (λ w. heading ++ w ++ codes "\n") (sym c.word_of.ensures))

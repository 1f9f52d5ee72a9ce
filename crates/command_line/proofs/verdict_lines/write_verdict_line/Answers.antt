use Rattle.std.proofs.Common.{◌++◌, codes, decimal, append_assoc, refl}
use Rattle.desk_io.proofs.Growth.{Grew-then}
use Rattle.desk_io.proofs.Writing.{first_failed, next_failed, last_writes}
use Rattle.proof_log.specs.Text.{verdict_text}
use Rattle.command_line.proofs.verdict_lines.write_verdict_line.Goals as goal

pub returns-in_err-write_heading-clause-bytes : goal.returns-in_err-write_heading-clause-bytes
returns-in_err-write_heading-clause-bytes g c =
    let heading = codes "prove " ++ decimal c.args.k ++ codes ": " in
    let told = verdict_text c.args.vars.now c.args.verdict.now in
    first_failed _ _ _ _ _ heading (told ++ codes "\n") _ c.from_residual.ensures.0 c.in_err-write_heading.ensures.bytes
    (append_assoc heading told (codes "\n"))

pub returns-in_err-write_verdict-clause-bytes : goal.returns-in_err-write_verdict-clause-bytes
returns-in_err-write_verdict-clause-bytes g c =
    next_failed _ _ _ _ _ _ _ (codes "prove " ++ decimal c.args.k ++ codes ": ") (verdict_text c.args.vars.now c.args.verdict.now) (codes "\n") _
    c.from_residual-in_err-write_verdict.ensures.0 c.in_ok-write_heading.ensures.bytes c.in_err-write_verdict.ensures.bytes refl

pub returns-clause-bytes : goal.returns-clause-bytes
returns-clause-bytes g c =
    last_writes c.push.result _ _ _ _ _ _ (codes "prove " ++ decimal c.args.k ++ codes ": " ++ verdict_text c.args.vars.now c.args.verdict.now) (codes "\n") _
    (Grew-then _ _ _ _ _ _ _ _ c.in_ok-write_heading.ensures.bytes c.in_ok-write_verdict.ensures.bytes) c.push.ensures.bytes refl

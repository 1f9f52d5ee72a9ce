use Rattle.std.proofs.Common.{refl}
use Rattle.desk_io.proofs.Writing.{first_failed, last_writes}
use Rattle.proof_log.specs.declared.line.LogLine.TheVariants as line
use Rattle.proof_log.specs.Writing.{whole_line, lists_text}
use Rattle.proof_log.proofs.writing.write_open.Goals as goal

pub returns-in_err-write_row-clause-bytes : goal.returns-in_err-write_row-clause-bytes
returns-in_err-write_row-clause-bytes g c =
    let names = c.args.vars.now in
    first_failed _ _ _ _ _ (whole_line names (line.Open c.args.reason c.args.what)) (lists_text names c.args.piece.now) _ c.from_residual.ensures.0 c.in_err-write_row.ensures.bytes
    refl

pub returns-clause-bytes : goal.returns-clause-bytes
returns-clause-bytes g c =
    let names = c.args.vars.now in
    last_writes c.write_lists.result _ _ _ _ _ _ (whole_line names (line.Open c.args.reason c.args.what)) (lists_text names c.args.piece.now) _
    c.in_ok-write_row.ensures.bytes c.write_lists.ensures.bytes
    refl

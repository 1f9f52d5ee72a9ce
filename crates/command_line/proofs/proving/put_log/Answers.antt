use Rattle.std.proofs.Common.{[], subst}
use Rattle.desk_io.specs.Bytes.{Puts}
use Rattle.desk_io.proofs.Writing.{closed}
use Rattle.proof_log.specs.Headings.{Heading}
use Rattle.proof_log.specs.Lines.{log_lines}
use Rattle.proof_log.specs.Text.{text_of}
use Rattle.command_line.proofs.proving.put_log.Goals as goal

pub returns-in-Ok-clause-bytes : goal.returns-in-Ok-clause-bytes
returns-in-Ok-clause-bytes g c =
    subst (λ (h : Heading). Puts (g.S.Sink.written c.args.out.now) (g.S.Sink.written c.close.new.sink) c.close.result (text_of [] (log_lines h c.args.log.now.proofs)))
    c.requires.heading
    (closed c.close.result _ _ _ _ _ _ c.requires.pen c.in-Ok.ensures.bytes c.close.ensures.bytes)

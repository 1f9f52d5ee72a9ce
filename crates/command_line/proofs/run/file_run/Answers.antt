use Rattle.std.proofs.Common.{inl, inr}
use Rattle.command_line.specs.Table.{TextOf}
use Rattle.command_line.specs.Contract.{lent, views}
use Rattle.command_line.proofs.Runs.{run_of}
use Rattle.command_line.proofs.run.file_run.Goals as goal

pub returns-clause-run : goal.returns-clause-run
returns-clause-run g c =
    run_of (views g.K.Desk.held g.K.Desk.faults g.S.Sink.written g.S.Sink.faults g.N.Sink.written g.N.Sink.faults)
    (lent c.args.desk.now c.args.out.now c.args.notes.now) (lent c.file_answered.new.desk c.file_answered.new.out c.file_answered.new.notes)
    (TextOf g.C.TextCommand.made c.args.name.now) c.file_answered.result
    c.file_answered.ensures.answered (λ e. c.file_answered.ensures.text.of_text.0 e)
    (λ e. elim (c.file_answered.ensures.read_fault e) [ inl rose ↦ inl rose | inr lacks ↦ inr (inl lacks) ])
    c.file_answered.ensures.write_fault c.file_answered.ensures.untouched c.file_answered.ensures.unsaid
    c.file_answered.ensures.same c.file_answered.ensures.later

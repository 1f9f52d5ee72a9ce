use Rattle.std.proofs.Common.{inl, inr}
use Rattle.command_line.specs.Table.{ProveOf}
use Rattle.command_line.specs.Contract.{lent, views}
use Rattle.command_line.proofs.Runs.{run_of}
use Rattle.command_line.proofs.run.proofs_run.Goals as goal

pub returns-clause-run : goal.returns-clause-run
returns-clause-run g c =
    run_of (views g.K.Desk.held g.K.Desk.faults g.S.Sink.written g.S.Sink.faults g.N.Sink.written g.N.Sink.faults)
    (lent c.args.desk.now c.args.out.now c.args.notes.now) (lent c.proofs_answered.new.desk c.proofs_answered.new.out c.proofs_answered.new.notes)
    (ProveOf c.args.name.now) c.proofs_answered.result
    c.proofs_answered.ensures.answered (λ e. c.proofs_answered.ensures.proofs.0 e)
    (λ e. elim (c.proofs_answered.ensures.read_fault e) [ inl rose ↦ inl rose | inr lacks ↦ inr (inl lacks) ])
    c.proofs_answered.ensures.write_fault c.proofs_answered.ensures.untouched c.proofs_answered.ensures.unsaid
    c.proofs_answered.ensures.same c.proofs_answered.ensures.later

use Rattle.std.proofs.Common.{Some, inl, inr}
use Rattle.command_line.specs.Table.{CarryOf}
use Rattle.command_line.specs.Contract.{lent, views}
use Rattle.command_line.proofs.CarryingFacts.{no_usage}
use Rattle.command_line.proofs.Runs.{run_of}
use Rattle.command_line.proofs.carry.carry_run.Goals as goal

pub returns-clause-run : goal.returns-clause-run
returns-clause-run g c =
    run_of (views g.K.Desk.held g.K.Desk.faults g.S.Sink.written g.S.Sink.faults g.N.Sink.written g.N.Sink.faults)
    (lent c.args.desk.now c.args.out.now c.args.notes.now) (lent c.carry_answered.new.desk c.carry_answered.new.out c.carry_answered.new.notes)
    (CarryOf c.args.log.now c.args.file.now c.args.figure.now) c.carry_answered.result
    c.carry_answered.ensures.answered (no_usage c.carry_answered.result c.carry_answered.ensures.status).0 c.carry_answered.ensures.read_fault
    c.carry_answered.ensures.write_fault c.carry_answered.ensures.untouched (λ e. c.carry_answered.ensures.unsaid (inr e))
    c.carry_answered.ensures.same c.carry_answered.ensures.later

pub returns-clause-carried : goal.returns-clause-carried
returns-clause-carried g c = record {
  of_carry = no_usage c.carry_answered.result c.carry_answered.ensures.status;
  unsaid = λ e. c.carry_answered.ensures.unsaid (inl e);
}

pub returns-clause-headline : goal.returns-clause-headline
returns-clause-headline g c =
    let form = Some (CarryOf c.args.log.now c.args.file.now c.args.figure.now) in
    c.a_yes_is_assured.ensures form (g.K.Desk.held c.args.desk.now) _ _ _ _ _ _ c.carry_answered.result c.carry_answered.ensures.answered

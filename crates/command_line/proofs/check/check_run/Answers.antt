use Rattle.std.proofs.Common.{Some}
use Rattle.std.specs.Option.{option_copied}
use Rattle.command_line.specs.Table.{CheckOf}
use Rattle.command_line.specs.Contract.{lent, views}
use Rattle.command_line.proofs.Runs.{run_of}
use Rattle.command_line.proofs.check.check_run.Goals as goal

pub returns-clause-run : goal.returns-clause-run
returns-clause-run g c =
    run_of (views g.K.Desk.held g.K.Desk.faults g.S.Sink.written g.S.Sink.faults g.N.Sink.written g.N.Sink.faults)
    (lent c.args.desk.now c.args.out.now c.args.notes.now) (lent c.check_answered.new.desk c.check_answered.new.out c.check_answered.new.notes)
    (CheckOf c.args.log.now (option_copied c.args.file)) c.check_answered.result
    c.check_answered.ensures.answered c.check_answered.ensures.checked.0 c.check_answered.ensures.read_fault
    c.check_answered.ensures.write_fault c.check_answered.ensures.untouched c.check_answered.ensures.unsaid
    c.check_answered.ensures.same c.check_answered.ensures.later

pub returns-clause-headline : goal.returns-clause-headline
returns-clause-headline g c =
    let form = Some (CheckOf c.args.log.now (option_copied c.args.file)) in
    c.a_yes_is_assured.ensures form (g.K.Desk.held c.args.desk.now) _ _ _ _ _ _ c.check_answered.result c.check_answered.ensures.answered

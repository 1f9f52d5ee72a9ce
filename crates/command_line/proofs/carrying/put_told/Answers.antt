use Rattle.std.proofs.Common.{subst}
use Rattle.proof_log.specs.Text.{word_text}
use Rattle.command_line.specs.Answer.{only_notes, text_answer}
use Rattle.command_line.specs.Carrying.{carried_text}
use Rattle.command_line.specs.CarryStages.{IsToldFor, posed}
use Rattle.command_line.specs.Checking.{malformed_at, misfit_at, other_problems, rejected_line}
use Rattle.command_line.specs.Run.{Ends}
use Rattle.command_line.specs.declared.checking.Found.TheVariants as found
use Rattle.command_line.specs.declared.status.Status.TheVariants as status
use Rattle.command_line.proofs.CarryingFacts.{told_not, told_so}
use Rattle.command_line.proofs.Checks.{gives}
use Rattle.command_line.proofs.carrying.put_told.Goals as goal

pub returns-then-not-has-clause-ends : goal.returns-then-not-has-clause-ends
returns-then-not-has-clause-ends g c stated is =
    let p = posed c.args.program.now stated in
    gives (IsToldFor p c.args.places.now c.args.found.now) other_problems _ _ _ _ _
    (told_not p c.args.places.now c.args.found.now c.args.has c.if-not-has.true is)
    (c.say.ensures.ends (g.S.Sink.written c.args.out.now))

pub returns-in-Accepted-clause-ends : goal.returns-in-Accepted-clause-ends
returns-in-Accepted-clause-ends g c stated is =
    let p = posed c.args.program.now stated in
    let f = c.args.places.now in
    let k = c.in-Accepted.checked in
    gives (IsToldFor p f c.args.found.now) (text_answer (carried_text c.args.program.now.acts f k.problems k.verdicts)) _ _ _ _ _
    (told_so p f c.args.found.now (found.Accepted k) c.args.has c.if-not-has.false is c.in-Accepted.is)
    (c.put_accepted.ensures.ends (g.N.Sink.written c.args.notes.now))

pub returns-in-Malformed-clause-ends : goal.returns-in-Malformed-clause-ends
returns-in-Malformed-clause-ends g c stated is =
    let p = posed c.args.program.now stated in
    let f = c.args.places.now in
    gives (IsToldFor p f c.args.found.now) (malformed_at c.in-Malformed.line) _ _ _ _ _
    (told_so p f c.args.found.now (found.Malformed c.in-Malformed.line) c.args.has c.if-not-has.false is c.in-Malformed.is)
    (c.say_rejected.ensures.ends (g.S.Sink.written c.args.out.now))

pub returns-in-Rejected-clause-ends : goal.returns-in-Rejected-clause-ends
returns-in-Rejected-clause-ends g c stated is =
    let p = posed c.args.program.now stated in
    let f = c.args.places.now in
    let line = c.in-Rejected.line in
    let out = g.S.Sink.written c.args.out.now in
    gives (IsToldFor p f c.args.found.now) (misfit_at line c.in-Rejected.word) _ _ _ _ _
    (told_so p f c.args.found.now (found.Rejected line c.in-Rejected.word) c.args.has c.if-not-has.false is c.in-Rejected.is)
    (subst (λ w. Ends (only_notes status.Rejected (rejected_line line w)) out out (g.N.Sink.written c.args.notes.now)
    (g.N.Sink.written c.say_rejected-in-Rejected.new.notes) c.say_rejected-in-Rejected.result) c.word_text.ensures
    (c.say_rejected-in-Rejected.ensures.ends out))

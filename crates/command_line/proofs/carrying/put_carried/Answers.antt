use Rattle.std.proofs.Common.{subst}
use Rattle.gcl_reader.specs.Grammar.{Fails}
use Rattle.command_line.specs.Answer.{refused}
use Rattle.command_line.specs.Carrying.{posed_in}
use Rattle.command_line.specs.CarryStages.{IsCarriedFound, posed}
use Rattle.command_line.proofs.CarryingFacts.{posed_read, posed_refused}
use Rattle.command_line.proofs.Checks.{gives}
use Rattle.command_line.proofs.carrying.put_carried.Goals as goal

pub returns-in-Ok-clause-ends : goal.returns-in-Ok-clause-ends
returns-in-Ok-clause-ends g c =
    let r = c.in-Ok.ensures.posed in
    posed_read (posed_in c.args.bytes.now) (posed c.in-Ok.program r.0) c.args.bytes.now c.args.figure.now c.args.found.now _ _ _ _ _
    r.1 (c.put_drawn.ensures.ends r.0 r.2)

pub returns-in-Err-Refused-clause-ends : goal.returns-in-Err-Refused-clause-ends
returns-in-Err-Refused-clause-ends g c =
    let bytes = c.args.bytes.now in
    let figure = c.args.figure.now in
    let found = c.args.found.now in
    gives (IsCarriedFound (posed_in bytes) bytes figure found) (refused bytes c.in-Err-Refused.refusal) _ _ _ _ _
    (posed_refused (posed_in bytes) bytes figure found c.in-Err-Refused.refusal
    (subst (λ f. Fails f (posed_in bytes)) c.in-Err-Refused.field-0-is c.in-Err-Refused.ensures.posed))
    (c.refuse.ensures.ends (g.S.Sink.written c.args.out.now))

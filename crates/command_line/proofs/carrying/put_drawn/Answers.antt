use Rattle.std.proofs.Common.{◌∙◌, Ok, ap, subst, sym}
use Rattle.gcl_reader.specs.Figure.{figure_of}
use Rattle.gcl_reader.specs.Grammar.{Fails}
use Rattle.command_line.specs.Answer.{refused}
use Rattle.command_line.specs.CarryStages.{IsDrawnFor, posed}
use Rattle.command_line.proofs.CarryingFacts.{drawn_read, drawn_refused}
use Rattle.command_line.proofs.Checks.{gives}
use Rattle.command_line.proofs.carrying.put_drawn.Goals as goal

pub returns-in-Ok-clause-ends : goal.returns-in-Ok-clause-ends
returns-in-Ok-clause-ends g c stated is =
    let p = posed c.args.program.now stated in
    drawn_read p (figure_of c.args.program.now.points c.args.figure.now) c.deref.result.now c.args.figure.now c.args.found.now _ _ _ _ _
    (ap (λ ps. figure_of ps c.args.figure.now) (sym c.as_slice.ensures) ∙ c.in-Ok.ensures.value ∙ ap Ok (sym c.deref.ensures.value)) (c.put_told.ensures.ends stated is)

pub returns-in-Err-Refused-clause-ends : goal.returns-in-Err-Refused-clause-ends
returns-in-Err-Refused-clause-ends g c stated is =
    let p = posed c.args.program.now stated in
    let drawn = figure_of c.args.program.now.points c.args.figure.now in
    let figure = c.args.figure.now in
    gives (IsDrawnFor p drawn figure c.args.found.now) (refused figure c.in-Err-Refused.refusal) _ _ _ _ _
    (drawn_refused p drawn figure c.args.found.now c.in-Err-Refused.refusal
    (ap (λ ps. figure_of ps figure) (sym c.as_slice.ensures)
    ∙ subst (λ f. Fails f (figure_of c.as_slice.result.now figure)) c.in-Err-Refused.field-0-is c.in-Err-Refused.ensures.value))
    (c.refuse.ensures.ends (g.S.Sink.written c.args.out.now))

use Rattle.command_line.specs.Answer.{text_answer}
use Rattle.command_line.proofs.Outcomes.{made_ends, refused_ends}
use Rattle.command_line.proofs.stage.put_file.Goals as goal

pub returns-in-Ok-clause-ends : goal.returns-in-Ok-clause-ends
returns-in-Ok-clause-ends g c = made_ends text_answer _ _ _ _ _ _ _ _ c.in-Ok.ensures (c.put_text.ensures.ends (g.N.Sink.written c.args.notes.now))

pub returns-in-Err-Refused-clause-ends : goal.returns-in-Err-Refused-clause-ends
returns-in-Err-Refused-clause-ends g c =
    refused_ends text_answer _ _ _ _ _ _ _ _ c.in-Err-Refused.field-0 c.in-Err-Refused.field-0-is c.in-Err-Refused.ensures (c.refuse.ensures.ends (g.S.Sink.written c.args.out.now))

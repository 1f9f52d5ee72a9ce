use Rattle.command_line.specs.Proving.{proved}
use Rattle.command_line.proofs.Outcomes.{made_ends, refused_ends}
use Rattle.command_line.proofs.proving.put_file_proofs.Goals as goal

pub returns-in-Ok-clause-ends : goal.returns-in-Ok-clause-ends
returns-in-Ok-clause-ends g c = made_ends proved _ _ _ _ _ _ _ _ c.in-Ok.ensures.value c.put_proofs.ensures.ends

pub returns-in-Err-Refused-clause-ends : goal.returns-in-Err-Refused-clause-ends
returns-in-Err-Refused-clause-ends g c =
    refused_ends proved _ _ _ _ _ _ _ _ c.in-Err-Refused.field-0 c.in-Err-Refused.field-0-is c.in-Err-Refused.ensures.value (c.refuse.ensures.ends (g.S.Sink.written c.args.out.now))

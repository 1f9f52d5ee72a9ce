use Rattle.std.proofs.Common.{Ok, subst}
use Rattle.gcl_reader.specs.Grammar.{Fails}
use Rattle.command_line.specs.Answer.{refused}
use Rattle.command_line.specs.Checking.{stated_in, other_problems}
use Rattle.command_line.specs.Found.{Compares, IsAnswerFor}
use Rattle.command_line.proofs.Checks.{gives, has_others, has_none}
use Rattle.command_line.proofs.comparing.put_compared.Goals as goal

pub returns-in-Ok-false-clause-ends : goal.returns-in-Ok-false-clause-ends
returns-in-Ok-false-clause-ends g c =
    let bytes = c.args.bytes.now in
    let found = c.args.found.now in
    gives (IsAnswerFor (stated_in bytes) bytes found) other_problems _ _ _ _ _
    (has_others (stated_in bytes) bytes found (subst (λ b. Compares found (Ok b) (stated_in bytes)) c.in-Ok-false.field-0-test c.in-Ok-false.ensures))
    (c.say.ensures.ends (g.S.Sink.written c.args.out.now))

pub returns-in-Err-Refused-clause-ends : goal.returns-in-Err-Refused-clause-ends
returns-in-Err-Refused-clause-ends g c =
    let bytes = c.args.bytes.now in
    let found = c.args.found.now in
    gives (IsAnswerFor (stated_in bytes) bytes found) (refused bytes c.in-Err-Refused.refusal) _ _ _ _ _
    (has_none (stated_in bytes) bytes found c.in-Err-Refused.refusal
    (subst (λ f. Fails f (stated_in bytes)) c.in-Err-Refused.field-0-is c.in-Err-Refused.ensures))
    (c.refuse.ensures.ends (g.S.Sink.written c.args.out.now))

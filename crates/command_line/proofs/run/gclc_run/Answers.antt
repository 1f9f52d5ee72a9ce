use Rattle.std.proofs.Common.{map}
use Rattle.std.specs.String.{string_bytes}
use Rattle.command_line.specs.Table.{form_of}
use Rattle.command_line.proofs.run.gclc_run.Goals as goal

pub returns-clause-headline : goal.returns-clause-headline
returns-clause-headline g c =
    c.a_yes_is_assured.ensures (form_of (map string_bytes c.args.words.now)) (g.K.Desk.held c.args.desk.now) _ _ _ _ _ _
    c.words_run.result c.words_run.ensures.run.answered

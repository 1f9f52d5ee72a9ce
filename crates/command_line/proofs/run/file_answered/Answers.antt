use Rattle.std.proofs.Common.{[], ap, refl, sym, subst}
use Rattle.gcl_reader.specs.declared.limits.TheConstants.{MOST_BYTES}
use Rattle.command_line.specs.Answer.{text_answer, answer_from}
use Rattle.command_line.specs.Readings.{WasRead}
use Rattle.command_line.specs.Table.{TextOf, IsAnswerOver, source}
use Rattle.command_line.proofs.Table.{silent_text, silent_from, proper_text, proper_from}
use Rattle.command_line.proofs.Dues.{first_decides, read_and_given}
use Rattle.command_line.proofs.run.file_answered.Goals as goal

pub returns-in-Err-clause-answered : goal.returns-in-Err-clause-answered
returns-in-Err-clause-answered g c =
    first_decides _ _ (source c.args.name.now MOST_BYTES) [] (IsAnswerOver (TextOf g.C.TextCommand.made c.args.name.now)) _ _ _ _ _
    (c.in-Err.ensures.over (g.S.Sink.written c.args.out.now))

pub returns-in-Ok-clause-answered : goal.returns-in-Ok-clause-answered
returns-in-Ok-clause-answered g c =
    let bytes = c.deref.result.now in
    read_and_given _ _ (source c.args.name.now MOST_BYTES) bytes (IsAnswerOver (TextOf g.C.TextCommand.made c.args.name.now))
    (answer_from text_answer bytes (g.C.TextCommand.made bytes)) _ _ _ _ _ _
    (silent_from text_answer bytes (g.C.TextCommand.made bytes) silent_text) (proper_from text_answer bytes (g.C.TextCommand.made bytes) proper_text) refl
    (subst (WasRead (g.K.Desk.held c.args.desk.now) c.args.name.now MOST_BYTES) (sym c.deref.ensures.value) c.in-Ok.ensures.read)
    (ap g.N.Sink.written c.in-Ok.ensures.untouched) c.put_file.ensures.ends

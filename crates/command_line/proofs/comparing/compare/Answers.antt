use Rattle.std.proofs.Common.{[], ap, sym, subst}
use Rattle.gcl_reader.specs.declared.limits.TheConstants.{MOST_BYTES}
use Rattle.command_line.specs.Checking.{stated_in}
use Rattle.command_line.specs.Found.{IsAnswerBehind}
use Rattle.command_line.specs.Readings.{WasRead}
use Rattle.command_line.specs.Table.{source}
use Rattle.command_line.proofs.Dues.{first_decides}
use Rattle.command_line.proofs.Found.{fit_for}
use Rattle.command_line.proofs.Checks.{read_and_one_given}
use Rattle.command_line.proofs.comparing.compare.Goals as goal

pub returns-in-Err-clause-answered : goal.returns-in-Err-clause-answered
returns-in-Err-clause-answered g c =
    first_decides _ _ (source c.args.name.now MOST_BYTES) [] (IsAnswerBehind c.args.found.now) _ _ _ _ _
    (c.in-Err.ensures.over (g.S.Sink.written c.args.out.now))

pub returns-in-Ok-clause-answered : goal.returns-in-Ok-clause-answered
returns-in-Ok-clause-answered g c =
    let bytes = c.deref.result.now in
    read_and_one_given _ _ (source c.args.name.now MOST_BYTES) bytes (IsAnswerBehind c.args.found.now) _ _ _ _ _ _
    (λ a is. fit_for (stated_in bytes) bytes c.args.found.now a is)
    (subst (WasRead (g.K.Desk.held c.args.desk.now) c.args.name.now MOST_BYTES) (sym c.deref.ensures.value) c.in-Ok.ensures.read)
    (ap g.N.Sink.written c.in-Ok.ensures.untouched) c.put_compared.ensures.ends

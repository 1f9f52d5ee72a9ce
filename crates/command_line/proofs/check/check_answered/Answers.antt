use Rattle.std.proofs.Common.{ap, arith}
use Rattle.std.specs.Option.{option_copied}
use Rattle.command_line.proofs.Checks.{log_decides, log_given, compared_given}
use Rattle.command_line.proofs.check.check_answered.Goals as goal

pub returns-clause-answered : goal.returns-clause-answered
returns-clause-answered g c =
    log_decides _ _ c.args.log.now (option_copied c.args.file) _ _ _ _ _ (c.in-Err.ensures.over (g.S.Sink.written c.args.out.now))

pub returns-in-Ok-clause-answered : goal.returns-in-Ok-clause-answered
returns-in-Ok-clause-answered g c =
    log_given _ _ c.args.log.now (option_copied c.args.file) c.in-Ok.found _ _ _ _ _ _ (ap option_copied c.in-None.is) c.in-Ok.ensures.found
    (ap g.N.Sink.written c.in-Ok.ensures.untouched) c.put_found.ensures.ends

pub returns-in-Some-clause-answered : goal.returns-in-Some-clause-answered
returns-in-Some-clause-answered g c =
    compared_given _ _ _ _ c.args.log.now c.in-Some.name.now (option_copied c.args.file) c.in-Ok.found _ _ _ _ _ _ (ap option_copied c.in-Some.is)
    c.in-Ok.ensures.found c.in-Ok.ensures.same (λ r. omega (arith, r, c.in-Ok.ensures.later.0)) (ap g.N.Sink.written c.in-Ok.ensures.untouched)
    c.compare.ensures.answered

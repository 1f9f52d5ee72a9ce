use Rattle.std.proofs.Common.{[], ◌∷◌, ap, arith}
use Rattle.gcl_reader.specs.declared.limits.TheConstants.{MOST_BYTES}
use Rattle.poly_model.specs.declared.limits.TheConstants.{MOST_LOG_BYTES}
use Rattle.command_line.specs.Table.{CarryOf, IsAnswerOver, source}
use Rattle.command_line.proofs.CarryingFacts.{carried_given}
use Rattle.command_line.proofs.Dues.{first_decides}
use Rattle.command_line.proofs.carry.carry_answered.Goals as goal

pub returns-in-Err-clause-answered : goal.returns-in-Err-clause-answered
returns-in-Err-clause-answered g c =
    first_decides _ _ (source c.args.log.now MOST_LOG_BYTES) (source c.args.file.now MOST_BYTES ∷ source c.args.figure.now MOST_BYTES ∷ [])
    (IsAnswerOver (CarryOf c.args.log.now c.args.file.now c.args.figure.now)) _ _ _ _ _ (c.in-Err.ensures.over (g.S.Sink.written c.args.out.now))

pub returns-in-Ok-clause-answered : goal.returns-in-Ok-clause-answered
returns-in-Ok-clause-answered g c =
    carried_given _ _ _ _ c.args.log.now c.args.file.now c.args.figure.now c.in-Ok.found _ _ _ _ _ _ c.in-Ok.ensures.found
    c.in-Ok.ensures.same (λ r. omega (arith, r, c.in-Ok.ensures.later.0)) (ap g.N.Sink.written c.in-Ok.ensures.untouched)
    c.carry_file.ensures.answered

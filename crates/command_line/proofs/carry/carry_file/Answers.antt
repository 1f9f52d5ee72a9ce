use Rattle.std.proofs.Common.{[], ◌∷◌, ap, subst, sym, arith}
use Rattle.gcl_reader.specs.declared.limits.TheConstants.{MOST_BYTES}
use Rattle.command_line.specs.CarryStages.{IsCarriedBehind}
use Rattle.command_line.specs.Readings.{WasRead}
use Rattle.command_line.specs.Table.{source}
use Rattle.command_line.proofs.Dues.{first_decides, first_read}
use Rattle.command_line.proofs.carry.carry_file.Goals as goal

pub returns-in-Err-clause-answered : goal.returns-in-Err-clause-answered
returns-in-Err-clause-answered g c =
    first_decides _ _ (source c.args.file.now MOST_BYTES) (source c.args.figure.now MOST_BYTES ∷ []) (IsCarriedBehind c.args.found.now) _ _ _ _ _
    (c.in-Err.ensures.over (g.S.Sink.written c.args.out.now))

pub returns-in-Ok-clause-answered : goal.returns-in-Ok-clause-answered
returns-in-Ok-clause-answered g c =
    first_read _ _ _ _ (source c.args.file.now MOST_BYTES) (source c.args.figure.now MOST_BYTES ∷ []) (IsCarriedBehind c.args.found.now) c.deref.result.now
    _ _ _ _ _ _
    (subst (WasRead (g.K.Desk.held c.args.desk.now) c.args.file.now MOST_BYTES) (sym c.deref.ensures.value) c.in-Ok.ensures.read)
    c.in-Ok.ensures.same (λ r. omega (arith, r, c.in-Ok.ensures.later.0)) (ap g.N.Sink.written c.in-Ok.ensures.untouched)
    c.carry_figure.ensures.answered

use Rattle.std.proofs.Common.{[], ◌∷◌, ap, subst, sym}
use Rattle.gcl_reader.specs.declared.limits.TheConstants.{MOST_BYTES}
use Rattle.command_line.specs.Carrying.{posed_in}
use Rattle.command_line.specs.CarryStages.{IsCarriedBehind}
use Rattle.command_line.specs.Readings.{WasRead}
use Rattle.command_line.specs.Table.{source}
use Rattle.command_line.proofs.CarryingFacts.{fit_found}
use Rattle.command_line.proofs.Checks.{read_and_one_given}
use Rattle.command_line.proofs.Dues.{first_decides}
use Rattle.command_line.proofs.carry.carry_figure.Goals as goal

pub returns-in-Err-clause-answered : goal.returns-in-Err-clause-answered
returns-in-Err-clause-answered g c =
    first_decides _ _ (source c.args.name.now MOST_BYTES) [] (λ figures a. IsCarriedBehind c.args.found.now (c.args.bytes.now ∷ figures) a) _ _ _ _ _
    (c.in-Err.ensures.over (g.S.Sink.written c.args.out.now))

pub returns-in-Ok-clause-answered : goal.returns-in-Ok-clause-answered
returns-in-Ok-clause-answered g c =
    let text = c.args.bytes.now in
    let drawn = c.deref.result.now in
    read_and_one_given _ _ (source c.args.name.now MOST_BYTES) drawn (λ figures a. IsCarriedBehind c.args.found.now (text ∷ figures) a) _ _ _ _ _ _
    (λ a is. fit_found (posed_in text) text drawn c.args.found.now a is)
    (subst (WasRead (g.K.Desk.held c.args.desk.now) c.args.name.now MOST_BYTES) (sym c.deref.ensures.value) c.in-Ok.ensures.read)
    (ap g.N.Sink.written c.in-Ok.ensures.untouched) c.put_carried.ensures.ends

use Rattle.std.proofs.Common.{sym, ◌∙◌, ap, subst, length, nat_le}
use Rattle.algebraize.proofs.Proves as proves
use Rattle.gcl_reader.specs.Grammar.{Fails}
use Rattle.poly_model.specs.declared.limits.TheConstants.{MOST_VARIABLES}
use Rattle.algebraize.specs.Layout.{with_points}
use Rattle.algebraize.specs.Problem.{laid_out}
use Rattle.algebraize.proofs.layout.lay_out.Goals as goal

pub returns-then-not-has_room : goal.returns-then-not-has_room
returns-then-not-has_room c =
    subst (λ f. Fails f (laid_out c.args.before.now c.args.prove.now)) (sym c.too_many_variables.ensures)
    (proves.too_many c.args.before.now c.loop-act.rest.now c.in-Some.tail.now c.args.prove.now c.in-Some.act.now c.loop-act.layout
    c.loop-act.invariant.value c.in-Some.ensures.cases.0 (ap (λ n. nat_le (length (with_points n c.loop-act.layout).variables) MOST_VARIABLES) (sym c.new_points-points.ensures) ∙ sym c.has_room.ensures ∙ c.if-not-has_room.true))

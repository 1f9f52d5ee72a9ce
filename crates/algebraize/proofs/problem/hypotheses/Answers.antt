use Rattle.std.proofs.Common.{◌∙◌, ap}
use Rattle.algebraize.specs.Equations.{polynomials}
use Rattle.algebraize.specs.Figure.{effect}
use Rattle.algebraize.specs.Formed.{curves_of, effect_of, primitive_effect}
use Rattle.algebraize.proofs.Effects as effects
use Rattle.algebraize.proofs.problem.hypotheses.Goals as goal

pub loop-act-preserved : goal.loop-act-preserved
loop-act-preserved c =
    let figure = c.loop-act.figure in
    let taken = c.in_ok-take.ensures in
    let is = c.in_ok-effect.ensures ∙ ap (λ f. primitive_effect (effect polynomials f (curves_of figure) c.in-Some.act.now.deed)) c.loop-act.invariant.places in
    record {
      places = taken.places ∙ c.loop-act.invariant.places;
      defaults = taken.defaults c.loop-act.invariant.defaults;
      value = effects.act_taken c.args.figure.now.places.items (curves_of figure) (curves_of c.take.new.self) c.loop-act.rest.now c.in-Some.tail.now c.in-Some.act.now
          c.loop-act.equations.items c.take.new.equations.items _ (effect_of c.in_ok-effect.effect)
          c.in-Some.ensures.cases.0 is taken.curves taken.equations c.loop-act.invariant.value;
    }

pub returns-clause-value : goal.returns-clause-value
returns-clause-value c =
    c.from_vec.ensures
    ∙ effects.none_left c.args.figure.now.places.items (curves_of c.loop-act.figure) c.loop-act.rest.now c.loop-act.equations.items _
    c.in_default.ensures.cases c.loop-act.invariant.value

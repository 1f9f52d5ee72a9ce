use Rattle.std.proofs.Common.{subst, refl, ap, ◌∙◌}
use Rattle.poly_model.specs.Reduction.{coefficient_at}
use Rattle.poly_model.specs.Content.{primitive_part}
use Rattle.polynomials.specs.Held.{Gives, polynomial_at}
use Rattle.term_store.proofs.Making as making
use Rattle.polynomials.proofs.Results as results
use Rattle.workbench.proofs.parts.primitive_initial.Goals as goal

pub prim-requires-clause-a : goal.prim-requires-clause-a
prim-requires-clause-a g c = results.made-poly _ _ _ _ c.coefficient-initial.ensures

pub give_up-requires : goal.give_up-requires
give_up-requires g c = making.makes-other-live _ _ _ _ c.prim.ensures.part.makes (making.makes-live _ _ _ c.coefficient-initial.ensures.makes)

pub returns : goal.returns
returns g c =
    let s = g.S.TermStore.state c.args.s.now in
    let t = g.S.TermStore.state c.coefficient-initial.new.s in
    let u = g.S.TermStore.state c.prim.new.s in
    let v = g.S.TermStore.state c.give_up.new.s in
    let r = c.prim.result.1 in
    results.gives-freed s t u v c.coefficient-initial.result r _ c.coefficient-initial.ensures.makes
    (subst (Gives t u r) (ap primitive_part c.coefficient-initial.ensures.value ∙ λ i. primitive_part (coefficient_at (c.place.ensures.place i) (c.main_degree-power.ensures i) (polynomial_at s c.args.p))) c.prim.ensures.part)
    (results.freed u v _ _ refl c.give_up.ensures.lists c.give_up.ensures.spare)

use Rattle.std.proofs.Common.{◌∙◌, ap}
use Rattle.poly_model.specs.Content.{primitive_part}
use Rattle.poly_model.specs.Reduction.{same}
use Rattle.polynomials.proofs.Results as results
use Rattle.log_checker.proofs.Stores as stores
use Rattle.log_checker.proofs.arith.is_own_part.Goals as goal

pub prim-requires-clause-a : goal.prim-requires-clause-a
prim-requires-clause-a g c = results.made-poly _ _ _ _ c.copy_in-held.ensures

pub same-own-requires-clause-a : goal.same-own-requires-clause-a
same-own-requires-clause-a g c = results.kept-poly _ _ _ _ c.prim.ensures.part.makes (results.made-poly _ _ _ _ c.copy_in-held.ensures)

pub same-own-requires-clause-b : goal.same-own-requires-clause-b
same-own-requires-clause-b g c = results.made-poly _ _ _ _ c.prim.ensures.part

pub give_up-requires : goal.give_up-requires
give_up-requires g c = (results.made-poly _ _ _ _ c.prim.ensures.part).live

pub give_up-requires-2 : goal.give_up-requires-2
give_up-requires-2 g c = stores.made-live _ _ _ _ c.copy_in-held.ensures.makes (stores.freed-keeps _ _ _ _ c.prim.ensures.part.makes c.give_up.ensures)

pub returns-clause-lists : goal.returns-clause-lists
returns-clause-lists g c =
    (stores.made-and-freed _ _ _ _ _ c.copy_in-held.ensures.makes (stores.freed-keeps _ _ _ _ c.prim.ensures.part.makes c.give_up.ensures) c.give_up-2.ensures).lists
    ∙ c.make_room.ensures.lists

pub returns-clause-ok : goal.returns-clause-ok
returns-clause-ok g c =
    let t = g.S.TermStore.state c.copy_in-held.new.s in
    let u = g.S.TermStore.state c.prim.new.s in
    let a = results.kept-value t u _ c.copy_in-held.result c.prim.ensures.part.makes (results.made-poly _ _ _ _ c.copy_in-held.ensures) ∙ c.copy_in-held.ensures.value in
    let b = c.prim.ensures.part.value ∙ ap primitive_part c.copy_in-held.ensures.value in
    c.same-own.ensures ∙ (λ i. same (a i) (b i))

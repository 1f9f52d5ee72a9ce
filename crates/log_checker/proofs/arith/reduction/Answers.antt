use Rattle.std.proofs.Common.{◌∙◌}
use Rattle.poly_model.specs.Reduction.{reaches}
use Rattle.polynomials.proofs.Results as results
use Rattle.log_checker.proofs.Stores as stores
use Rattle.log_checker.proofs.Trying as trying
use Rattle.log_checker.proofs.arith.reduction.Goals as goal

pub reduced_out-out-requires-clause-g : goal.reduced_out-out-requires-clause-g
reduced_out-out-requires-clause-g g c = results.kept-poly _ _ _ _ c.copy_in-divisor.ensures.makes (results.made-poly _ _ _ _ c.copy_in-held.ensures)

pub reduced_out-out-requires-clause-f : goal.reduced_out-out-requires-clause-f
reduced_out-out-requires-clause-f g c = results.made-poly _ _ _ _ c.copy_in-divisor.ensures

pub reduced_out-out-requires-clause-reaches : goal.reduced_out-out-requires-clause-reaches
reduced_out-out-requires-clause-reaches g c =
    let t = g.S.TermStore.state c.copy_in-held.new.s in
    let u = g.S.TermStore.state c.copy_in-divisor.new.s in
    let a = results.kept-value t u _ c.copy_in-held.result c.copy_in-divisor.ensures.makes (results.made-poly _ _ _ _ c.copy_in-held.ensures) ∙ c.copy_in-held.ensures.value in
    (λ i. reaches (a i) (c.copy_in-divisor.ensures.value i)) ∙ c.requires.reaches

pub give_up-requires : goal.give_up-requires
give_up-requires g c = stores.made-live _ _ _ _ c.copy_in-divisor.ensures.makes c.reduced_out-out.ensures.kept

pub give_up-requires-2 : goal.give_up-requires-2
give_up-requires-2 g c =
    stores.made-live _ _ _ _ c.copy_in-held.ensures.makes (stores.made-and-freed _ _ _ _ _ c.copy_in-divisor.ensures.makes c.reduced_out-out.ensures.kept c.give_up.ensures)

pub returns-clause-lists : goal.returns-clause-lists
returns-clause-lists g c =
    (stores.made-and-freed _ _ _ _ _ c.copy_in-held.ensures.makes
    (stores.made-and-freed _ _ _ _ _ c.copy_in-divisor.ensures.makes c.reduced_out-out.ensures.kept c.give_up.ensures) c.give_up-2.ensures).lists
    ∙ c.make_room.ensures.lists

pub returns-clause-ok : goal.returns-clause-ok
returns-clause-ok g c =
    let t = g.S.TermStore.state c.copy_in-held.new.s in
    let u = g.S.TermStore.state c.copy_in-divisor.new.s in
    let a = results.kept-value t u _ c.copy_in-held.result c.copy_in-divisor.ensures.makes (results.made-poly _ _ _ _ c.copy_in-held.ensures) ∙ c.copy_in-held.ensures.value in
    trying.reduced-so c.reduced_out-out.result _ _ c.args.g.now c.args.f.now a c.copy_in-divisor.ensures.value c.copy_in-held.ensures.standard c.copy_in-divisor.ensures.standard c.reduced_out-out.ensures.ok

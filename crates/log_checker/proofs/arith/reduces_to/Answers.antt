use Rattle.std.proofs.Common.{◌≡◌, ◌∙◌, subst}
use mir.Syntax.{w128}
use Rattle.std.proofs.lemmas.Int.{to_z-of_z}
use Rattle.poly_model.specs.Reduction.{reaches}
use Rattle.poly_model.specs.Bounded.{bounded_reduction}
use Rattle.polynomials.specs.Held.{polynomial_at}
use Rattle.polynomials.proofs.Results as results
use Rattle.log_checker.specs.Trials.{gives}
use Rattle.log_checker.proofs.Stores as stores
use Rattle.log_checker.proofs.Trying as trying
use Rattle.log_checker.proofs.arith.reduces_to.Goals as goal

pub comes_to-told-requires-clause-g : goal.comes_to-told-requires-clause-g
comes_to-told-requires-clause-g g c = results.kept-poly _ _ _ _ c.copy_in-divisor.ensures.makes (results.made-poly _ _ _ _ c.copy_in-held.ensures)

pub comes_to-told-requires-clause-f : goal.comes_to-told-requires-clause-f
comes_to-told-requires-clause-f g c = results.made-poly _ _ _ _ c.copy_in-divisor.ensures

pub comes_to-told-requires-clause-reaches : goal.comes_to-told-requires-clause-reaches
comes_to-told-requires-clause-reaches g c =
    let t = g.S.TermStore.state c.copy_in-held.new.s in
    let u = g.S.TermStore.state c.copy_in-divisor.new.s in
    let a = results.kept-value t u _ c.copy_in-held.result c.copy_in-divisor.ensures.makes (results.made-poly _ _ _ _ c.copy_in-held.ensures) ∙ c.copy_in-held.ensures.value in
    (λ i. reaches (a i) (c.copy_in-divisor.ensures.value i)) ∙ c.requires.reaches

pub give_up-requires : goal.give_up-requires
give_up-requires g c = stores.made-live _ _ _ _ c.copy_in-divisor.ensures.makes c.comes_to-told.ensures.kept

pub give_up-requires-2 : goal.give_up-requires-2
give_up-requires-2 g c =
    stores.made-live _ _ _ _ c.copy_in-held.ensures.makes (stores.made-and-freed _ _ _ _ _ c.copy_in-divisor.ensures.makes c.comes_to-told.ensures.kept c.give_up.ensures)

pub returns-clause-lists : goal.returns-clause-lists
returns-clause-lists g c =
    (stores.made-and-freed _ _ _ _ _ c.copy_in-held.ensures.makes
    (stores.made-and-freed _ _ _ _ _ c.copy_in-divisor.ensures.makes c.comes_to-told.ensures.kept c.give_up.ensures) c.give_up-2.ensures).lists
    ∙ c.make_room.ensures.lists

pub returns-clause-ok : goal.returns-clause-ok
returns-clause-ok g c =
    let t = g.S.TermStore.state c.copy_in-held.new.s in
    let u = g.S.TermStore.state c.copy_in-divisor.new.s in
    let a = results.kept-value t u _ c.copy_in-held.result c.copy_in-divisor.ensures.makes (results.made-poly _ _ _ _ c.copy_in-held.ensures) ∙ c.copy_in-held.ensures.value in
    trying.told-so c.comes_to-told.result _ _ c.args.g.now c.args.f.now c.args.m c.args.r.now a c.copy_in-divisor.ensures.value c.copy_in-held.ensures.standard c.copy_in-divisor.ensures.standard
    (subst (λ m. c.comes_to-told.result ≡ gives (bounded_reduction (polynomial_at u c.copy_in-held.result) (polynomial_at u c.copy_in-divisor.result)) m c.args.r.now) (to_z-of_z w128 c.args.m c.ranges.m) c.comes_to-told.ensures.told)

use Rattle.std.proofs.Common.{◌∙◌, ap, ◌&&◌}
use mir.Syntax.{w128}
use Rattle.std.proofs.lemmas.Int.{to_z-of_z}
use Rattle.std.specs.Ordering.{int_eq}
use Rattle.poly_model.specs.Reduction.{same}
use Rattle.polynomials.specs.Held.{polynomial_at}
use Rattle.polynomials.proofs.Results as results
use Rattle.log_checker.proofs.Stores as stores
use Rattle.log_checker.proofs.Trying as trying
use Rattle.log_checker.proofs.arith.comes_to.Goals as goal

pub is_told-told-requires : goal.is_told-told-requires
is_told-told-requires g c = results.made-poly _ _ _ _ (stores.reduces-gives _ _ _ _ c.in-Ok.ensures.answer).1

pub give_up-requires : goal.give_up-requires
give_up-requires g c = (results.made-poly _ _ _ _ (stores.reduces-gives _ _ _ _ c.in-Ok.ensures.answer).1).live

pub returns-in-Err-clause-told : goal.returns-in-Err-clause-told
returns-in-Err-clause-told g c = trying.none-given _ _ c.in-Err.field-0 _ c.args.m c.args.r.now c.in-Err.ensures.answer

pub returns-in-Ok-clause-kept : goal.returns-in-Ok-clause-kept
returns-in-Ok-clause-kept g c = stores.freed-keeps _ _ _ _ (stores.reduces-gives _ _ _ _ c.in-Ok.ensures.answer).1.makes c.give_up.ensures

pub returns-in-Ok-clause-told : goal.returns-in-Ok-clause-told
returns-in-Ok-clause-told g c =
    let t = g.S.TermStore.state c.red_step.new.s in
    c.is_told-told.ensures ∙ ap (λ m. int_eq m c.in-Ok.found.0 && same (polynomial_at t c.in-Ok.found.1) c.args.r.now) (to_z-of_z w128 c.args.m c.ranges.m)
    ∙ trying.some-given _ _ c.in-Ok.found _ c.args.m c.args.r.now c.in-Ok.ensures.answer

use Rattle.std.proofs.Common.{length, sym, ◌∙◌, ap, subst, arith}
use Rattle.std.specs.Prelude.{Ok}
use Rattle.std.proofs.lemmas.Int.{ints, to_z-of_z}
use mir.Syntax.{w128}
use mir.Val.{SFits}
use Rattle.poly_model.specs.Bounded.{bounded_reduction}
use Rattle.term_store.specs.States.{list_at}
use Rattle.term_store.specs.Changes.{given_up}
use Rattle.term_store.proofs.Making as making
use Rattle.polynomials.specs.Held.{Gives, slot_of, polynomial_at}
use Rattle.polynomials.proofs.Results as results
use Rattle.pseudo_div.specs.Steps.{cost_of}
use Rattle.pseudo_div.proofs.Reducing as reducing
use Rattle.pseudo_div.proofs.Paying.{met-fuel}
use Rattle.pseudo_div.proofs.division.step_on.Goals as goal

pub len-terms-requires : goal.len-terms-requires
len-terms-requires g c =
    let s = g.S.TermStore.state c.args.s.now in
    let t = g.S.TermStore.state c.red_step.new.s in
    let next = c.in-Ok.next in
    let whole = bounded_reduction (polynomial_at s c.args.rest) (polynomial_at s c.args.f) in
    let made = reducing.reduces-some s t (c.in-Ok.multiplier, next) whole c.in-Ok.ensures.answer in
    results.live-at _ _ _ c.slot.ensures (making.makes-live s t (slot_of next) made.3.makes)

pub free-requires : goal.free-requires
free-requires g c =
    let s = g.S.TermStore.state c.args.s.now in
    let t = g.S.TermStore.state c.red_step.new.s in
    let next = c.in-Ok.next in
    let whole = bounded_reduction (polynomial_at s c.args.rest) (polynomial_at s c.args.f) in
    let made = reducing.reduces-some s t (c.in-Ok.multiplier, next) whole c.in-Ok.ensures.answer in
    results.live-at _ _ _ c.slot-then-fuel-terms.ensures (making.makes-live s t (slot_of next) made.3.makes)

pub returns-then-fuel-terms-clause-ok : goal.returns-then-fuel-terms-clause-ok
returns-then-fuel-terms-clause-ok g c =
    let s = g.S.TermStore.state c.args.s.now in
    let t = g.S.TermStore.state c.red_step.new.s in
    let next = c.in-Ok.next in
    let whole = bounded_reduction (polynomial_at s c.args.rest) (polynomial_at s c.args.f) in
    let made = reducing.reduces-some s t (c.in-Ok.multiplier, next) whole c.in-Ok.ensures.answer in
    let terms = c.len-terms.ensures ∙ ap (λ k. length (list_at t.lists k)) c.slot.ensures ∙ results.gives-length s t next made.0.1 made.3 in
    let v = g.S.TermStore.state c.free.new.self in (
      met-fuel c.args.fuel whole made.0 made.1 (λ le. omega (arith, le, terms, c.if-fuel-terms.true)),
      results.keeps-made s t v (slot_of next) made.3.makes (results.freed t v _ _ c.slot-then-fuel-terms.ensures c.free.ensures.lists c.free.ensures.spare),
    )

pub copy_out-requires : goal.copy_out-requires
copy_out-requires g c =
    let s = g.S.TermStore.state c.args.s.now in
    let t = g.S.TermStore.state c.red_step.new.s in
    let next = c.in-Ok.next in
    let whole = bounded_reduction (polynomial_at s c.args.rest) (polynomial_at s c.args.f) in
    let made = reducing.reduces-some s t (c.in-Ok.multiplier, next) whole c.in-Ok.ensures.answer in
    results.made-poly s t next made.0.1 made.3

pub free-requires-in-Err-copy_out : goal.free-requires-in-Err-copy_out
free-requires-in-Err-copy_out g c =
    let s = g.S.TermStore.state c.args.s.now in
    let t = g.S.TermStore.state c.red_step.new.s in
    let next = c.in-Ok.next in
    let whole = bounded_reduction (polynomial_at s c.args.rest) (polynomial_at s c.args.f) in
    let made = reducing.reduces-some s t (c.in-Ok.multiplier, next) whole c.in-Ok.ensures.answer in
    results.live-at _ _ _ c.slot-in-Err-copy_out.ensures (making.makes-live s t (slot_of next) made.3.makes)

pub free-requires-in-Ok-copy_out : goal.free-requires-in-Ok-copy_out
free-requires-in-Ok-copy_out g c =
    let s = g.S.TermStore.state c.args.s.now in
    let t = g.S.TermStore.state c.red_step.new.s in
    let next = c.in-Ok.next in
    let whole = bounded_reduction (polynomial_at s c.args.rest) (polynomial_at s c.args.f) in
    let made = reducing.reduces-some s t (c.in-Ok.multiplier, next) whole c.in-Ok.ensures.answer in
    results.live-at _ _ _ c.slot-in-Ok-copy_out.ensures (making.makes-other-live s t (slot_of next) (slot_of c.args.rest) made.3.makes c.requires.rest.live)

pub returns-in-Err-copy_out-clause-refused : goal.returns-in-Err-copy_out-clause-refused
returns-in-Err-copy_out-clause-refused g c =
    let s = g.S.TermStore.state c.args.s.now in
    let t = g.S.TermStore.state c.red_step.new.s in
    let next = c.in-Ok.next in
    let whole = bounded_reduction (polynomial_at s c.args.rest) (polynomial_at s c.args.f) in
    let made = reducing.reduces-some s t (c.in-Ok.multiplier, next) whole c.in-Ok.ensures.answer in
    let v = g.S.TermStore.state c.free-in-Err-copy_out.new.self in
    results.keeps-made s t v (slot_of next) made.3.makes (results.freed t v _ _ c.slot-in-Err-copy_out.ensures c.free-in-Err-copy_out.ensures.lists c.free-in-Err-copy_out.ensures.spare)

pub returns-in-Ok-copy_out-clause-ok : goal.returns-in-Ok-copy_out-clause-ok
returns-in-Ok-copy_out-clause-ok g c =
    let s = g.S.TermStore.state c.args.s.now in
    let t = g.S.TermStore.state c.red_step.new.s in
    let next = c.in-Ok.next in
    let whole = bounded_reduction (polynomial_at s c.args.rest) (polynomial_at s c.args.f) in
    let made = reducing.reduces-some s t (c.in-Ok.multiplier, next) whole c.in-Ok.ensures.answer in
    let terms = c.len-terms.ensures ∙ ap (λ k. length (list_at t.lists k)) c.slot.ensures ∙ results.gives-length s t next made.0.1 made.3 in
    let v = g.S.TermStore.state c.free-in-Ok-copy_out.new.self in
    let same = c.in-Ok-copy_out.ensures ∙ made.3.value in
    let cost = ap cost_of same in
    let freed = results.freed t v _ _ c.slot-in-Ok-copy_out.ensures c.free-in-Ok-copy_out.ensures.lists c.free-in-Ok-copy_out.ensures.spare in
    let m = c.in-Ok.multiplier in
    let size = c.in-Ok.ensures.size in
    let fits : SFits w128 m = omega (arith, ints, size) in (
      made.1 ∙ (λ i. Ok (sym (to_z-of_z w128 m fits ∙ made.2) i, sym same i)),
      omega (arith, cost, terms, c.if-fuel-terms.false),
      omega (arith, cost, terms, c.if-fuel-terms.false),
      subst (Gives (given_up s (slot_of c.args.rest)) v next) (sym same) (results.gives-instead s t v c.args.rest next made.0.1 made.3 c.requires.rest freed),
    )

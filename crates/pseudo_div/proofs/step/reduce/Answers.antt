use Rattle.std.proofs.Common.{sym, ◌∙◌, ap, subst, arith}
use Rattle.std.specs.Prelude.{Ok}
use Rattle.poly_model.specs.Reduction.{parts_of, multiplier_of}
use Rattle.poly_model.specs.Content.{primitive_part}
use Rattle.poly_model.specs.Bounded.{bounded_cross}
use Rattle.term_store.proofs.Making as making
use Rattle.polynomials.specs.Held.{Answers, Gives, slot_of, polynomial_at}
use Rattle.polynomials.proofs.Results as results
use Rattle.pseudo_div.specs.Answers.{Reduces}
use Rattle.pseudo_div.proofs.Reducing as reducing
use Rattle.pseudo_div.proofs.step.reduce.Goals as goal

pub prim-parts-requires-clause-a : goal.prim-parts-requires-clause-a
prim-parts-requires-clause-a g c =
    let s = g.S.TermStore.state c.args.s.now in
    let t = g.S.TermStore.state c.cross.new.s in
    let whole = bounded_cross (polynomial_at s c.args.lead) (polynomial_at s c.args.g) (polynomial_at s c.args.beside) (polynomial_at s c.args.f) in
    let made = results.answers-some s t c.in-Ok.difference whole (subst (λ r. Answers s t r whole) c.in-Ok.is c.cross.ensures) in
    results.made-poly s t c.in-Ok.difference made.0 made.2

pub prim-parts-requires-clause-room : goal.prim-parts-requires-clause-room
prim-parts-requires-clause-room g c =
    let s = g.S.TermStore.state c.args.s.now in
    let t = g.S.TermStore.state c.cross.new.s in
    let whole = bounded_cross (polynomial_at s c.args.lead) (polynomial_at s c.args.g) (polynomial_at s c.args.beside) (polynomial_at s c.args.f) in
    let made = results.answers-some s t c.in-Ok.difference whole (subst (λ r. Answers s t r whole) c.in-Ok.is c.cross.ensures) in
    let spare = results.gives-spare s t c.in-Ok.difference made.0 made.2 in
    omega (arith, spare, c.requires.room)

pub free-requires : goal.free-requires
free-requires g c =
    let s = g.S.TermStore.state c.args.s.now in
    let t = g.S.TermStore.state c.cross.new.s in
    let whole = bounded_cross (polynomial_at s c.args.lead) (polynomial_at s c.args.g) (polynomial_at s c.args.beside) (polynomial_at s c.args.f) in
    let made = results.answers-some s t c.in-Ok.difference whole (subst (λ r. Answers s t r whole) c.in-Ok.is c.cross.ensures) in
    results.live-at _ _ _ c.slot.ensures
    (making.makes-other-live _ _ (slot_of c.prim-parts.result.1) (slot_of c.in-Ok.difference) c.prim-parts.ensures.part.makes (making.makes-live s t (slot_of c.in-Ok.difference) made.2.makes))

pub returns-in-Ok-clause-answer : goal.returns-in-Ok-clause-answer
returns-in-Ok-clause-answer g c =
    let s = g.S.TermStore.state c.args.s.now in
    let t = g.S.TermStore.state c.cross.new.s in
    let u = g.S.TermStore.state c.prim-parts.new.s in
    let v = g.S.TermStore.state c.free.new.self in
    let whole = bounded_cross (polynomial_at s c.args.lead) (polynomial_at s c.args.g) (polynomial_at s c.args.beside) (polynomial_at s c.args.f) in
    let made = results.answers-some s t c.in-Ok.difference whole (subst (λ r. Answers s t r whole) c.in-Ok.is c.cross.ensures) in
    let freed = results.freed u v _ _ c.slot.ensures c.free.ensures.lists c.free.ensures.spare in
    let part = subst (Gives t u c.prim-parts.result.1) (ap primitive_part made.2.value) c.prim-parts.ensures.part in
    subst (Reduces s v (Ok c.prim-parts.result)) (sym (reducing.then-ok whole made.0 (λ p. Ok (parts_of p)) made.1))
    (c.prim-parts.ensures.content ∙ ap multiplier_of made.2.value, results.gives-freed s t u v c.in-Ok.difference c.prim-parts.result.1 (primitive_part made.0) made.2.makes part freed)

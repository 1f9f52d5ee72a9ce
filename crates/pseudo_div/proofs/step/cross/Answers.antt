use Rattle.std.proofs.Common.{sym, ◌∙◌, subst, arith}
use Rattle.std.specs.Prelude.{Result}
use Rattle.poly_model.specs.Polynomial.{Polynomial}
use Rattle.poly_model.specs.declared.limits.Limit.{Limit}
use Rattle.poly_model.specs.Bounded.{bounded_difference, bounded_product, and_then}
use Rattle.term_store.proofs.Making as making
use Rattle.polynomials.specs.Held.{Answers, slot_of, polynomial_at}
use Rattle.polynomials.proofs.Results as results
use Rattle.pseudo_div.proofs.Reducing as reducing
use Rattle.pseudo_div.proofs.step.cross.Goals as goal

pub less_product-outcome-requires-clause-first : goal.less_product-outcome-requires-clause-first
less_product-outcome-requires-clause-first g c =
    let s = g.S.TermStore.state c.args.s.now in
    let t = g.S.TermStore.state c.mul.new.s in
    let whole = bounded_product (polynomial_at s c.args.lead) (polynomial_at s c.args.g) in
    let made = results.answers-some s t c.in-Ok.first whole (subst (λ r. Answers s t r whole) c.in-Ok.is c.mul.ensures) in
    results.made-poly s t c.in-Ok.first made.0 made.2

pub less_product-outcome-requires-clause-a : goal.less_product-outcome-requires-clause-a
less_product-outcome-requires-clause-a g c =
    let s = g.S.TermStore.state c.args.s.now in
    let t = g.S.TermStore.state c.mul.new.s in
    let whole = bounded_product (polynomial_at s c.args.lead) (polynomial_at s c.args.g) in
    let made = results.answers-some s t c.in-Ok.first whole (subst (λ r. Answers s t r whole) c.in-Ok.is c.mul.ensures) in
    results.kept-poly s t (slot_of c.in-Ok.first) c.args.beside made.2.makes c.requires.beside

pub less_product-outcome-requires-clause-b : goal.less_product-outcome-requires-clause-b
less_product-outcome-requires-clause-b g c =
    let s = g.S.TermStore.state c.args.s.now in
    let t = g.S.TermStore.state c.mul.new.s in
    let whole = bounded_product (polynomial_at s c.args.lead) (polynomial_at s c.args.g) in
    let made = results.answers-some s t c.in-Ok.first whole (subst (λ r. Answers s t r whole) c.in-Ok.is c.mul.ensures) in
    results.kept-poly s t (slot_of c.in-Ok.first) c.args.f made.2.makes c.requires.f

pub less_product-outcome-requires-clause-room : goal.less_product-outcome-requires-clause-room
less_product-outcome-requires-clause-room g c =
    let s = g.S.TermStore.state c.args.s.now in
    let t = g.S.TermStore.state c.mul.new.s in
    let whole = bounded_product (polynomial_at s c.args.lead) (polynomial_at s c.args.g) in
    let made = results.answers-some s t c.in-Ok.first whole (subst (λ r. Answers s t r whole) c.in-Ok.is c.mul.ensures) in
    let spare = results.gives-spare s t c.in-Ok.first made.0 made.2 in
    omega (arith, spare, c.requires.room)

pub free-requires : goal.free-requires
free-requires g c =
    let s = g.S.TermStore.state c.args.s.now in
    let t = g.S.TermStore.state c.mul.new.s in
    let whole = bounded_product (polynomial_at s c.args.lead) (polynomial_at s c.args.g) in
    let made = results.answers-some s t c.in-Ok.first whole (subst (λ r. Answers s t r whole) c.in-Ok.is c.mul.ensures) in
    results.live-at _ _ _ c.slot.ensures (results.answers-live t _ (slot_of c.in-Ok.first) _ _ c.less_product-outcome.ensures (making.makes-live s t (slot_of c.in-Ok.first) made.2.makes))

pub returns-in-Ok : goal.returns-in-Ok
returns-in-Ok g c =
    let s = g.S.TermStore.state c.args.s.now in
    let t = g.S.TermStore.state c.mul.new.s in
    let u = g.S.TermStore.state c.less_product-outcome.new.s in
    let v = g.S.TermStore.state c.free.new.self in
    let I = polynomial_at s c.args.lead in
    let G = polynomial_at s c.args.g in
    let B = polynomial_at s c.args.beside in
    let F = polynomial_at s c.args.f in
    let whole = bounded_product I G in
    let made = results.answers-some s t c.in-Ok.first whole (subst (λ r. Answers s t r whole) c.in-Ok.is c.mul.ensures) in
    let next : Polynomial → Result Polynomial Limit = λ first. and_then (bounded_product B F) (λ second. bounded_difference first second) in
    let a = results.kept-value s t (slot_of c.in-Ok.first) c.args.beside made.2.makes c.requires.beside in
    let b = results.kept-value s t (slot_of c.in-Ok.first) c.args.f made.2.makes c.requires.f in
    let outcome = subst (Answers t u c.less_product-outcome.result) (λ i. and_then (bounded_product (a i) (b i)) (λ second. bounded_difference (made.2.value i) second)) c.less_product-outcome.ensures in
    let freed = results.freed u v _ _ c.slot.ensures c.free.ensures.lists c.free.ensures.spare in
    let cross = reducing.cross-fits I G B F (sym c.degrees_fit.ensures ∙ c.if-not-degrees_fit.false) (sym c.degrees_fit-else-not-degrees_fit.ensures ∙ c.if-not-degrees_fit-2.false) in
    subst (Answers s v c.less_product-outcome.result) (sym (cross ∙ reducing.then-ok whole made.0 next made.1))
    (results.answers-freed s t u v c.in-Ok.first c.less_product-outcome.result (next made.0) made.2.makes outcome freed)

use Rattle.std.proofs.Common.{sym, subst, arith}
use Rattle.poly_model.specs.Bounded.{bounded_difference, bounded_product}
use Rattle.term_store.proofs.Making as making
use Rattle.polynomials.specs.Held.{Answers, slot_of, polynomial_at}
use Rattle.polynomials.proofs.Results as results
use Rattle.pseudo_div.proofs.Reducing as reducing
use Rattle.pseudo_div.proofs.step.less_product.Goals as goal

pub sub-outcome-requires-clause-a : goal.sub-outcome-requires-clause-a
sub-outcome-requires-clause-a g c =
    let s = g.S.TermStore.state c.args.s.now in
    let t = g.S.TermStore.state c.mul.new.s in
    let whole = bounded_product (polynomial_at s c.args.a) (polynomial_at s c.args.b) in
    let made = results.answers-some s t c.in-Ok.second whole (subst (λ r. Answers s t r whole) c.in-Ok.is c.mul.ensures) in
    results.kept-poly s t (slot_of c.in-Ok.second) c.args.first made.2.makes c.requires.first

pub sub-outcome-requires-clause-b : goal.sub-outcome-requires-clause-b
sub-outcome-requires-clause-b g c =
    let s = g.S.TermStore.state c.args.s.now in
    let t = g.S.TermStore.state c.mul.new.s in
    let whole = bounded_product (polynomial_at s c.args.a) (polynomial_at s c.args.b) in
    let made = results.answers-some s t c.in-Ok.second whole (subst (λ r. Answers s t r whole) c.in-Ok.is c.mul.ensures) in
    results.made-poly s t c.in-Ok.second made.0 made.2

pub sub-outcome-requires-clause-room : goal.sub-outcome-requires-clause-room
sub-outcome-requires-clause-room g c =
    let s = g.S.TermStore.state c.args.s.now in
    let t = g.S.TermStore.state c.mul.new.s in
    let whole = bounded_product (polynomial_at s c.args.a) (polynomial_at s c.args.b) in
    let made = results.answers-some s t c.in-Ok.second whole (subst (λ r. Answers s t r whole) c.in-Ok.is c.mul.ensures) in
    let spare = results.gives-spare s t c.in-Ok.second made.0 made.2 in
    omega (arith, spare, c.requires.room)

pub free-requires : goal.free-requires
free-requires g c =
    let s = g.S.TermStore.state c.args.s.now in
    let t = g.S.TermStore.state c.mul.new.s in
    let whole = bounded_product (polynomial_at s c.args.a) (polynomial_at s c.args.b) in
    let made = results.answers-some s t c.in-Ok.second whole (subst (λ r. Answers s t r whole) c.in-Ok.is c.mul.ensures) in
    results.live-at _ _ _ c.slot.ensures (results.answers-live t _ (slot_of c.in-Ok.second) _ _ c.sub-outcome.ensures (making.makes-live s t (slot_of c.in-Ok.second) made.2.makes))

pub returns-in-Ok : goal.returns-in-Ok
returns-in-Ok g c =
    let s = g.S.TermStore.state c.args.s.now in
    let t = g.S.TermStore.state c.mul.new.s in
    let u = g.S.TermStore.state c.sub-outcome.new.s in
    let v = g.S.TermStore.state c.free.new.self in
    let whole = bounded_product (polynomial_at s c.args.a) (polynomial_at s c.args.b) in
    let made = results.answers-some s t c.in-Ok.second whole (subst (λ r. Answers s t r whole) c.in-Ok.is c.mul.ensures) in
    let next = bounded_difference (polynomial_at s c.args.first) in
    let kept = results.kept-value s t (slot_of c.in-Ok.second) c.args.first made.2.makes c.requires.first in
    let outcome = subst (Answers t u c.sub-outcome.result) (λ i. bounded_difference (kept i) (made.2.value i)) c.sub-outcome.ensures in
    let freed = results.freed u v _ _ c.slot.ensures c.free.ensures.lists c.free.ensures.spare in
    subst (Answers s v c.sub-outcome.result) (sym (reducing.then-ok whole made.0 next made.1))
    (results.answers-freed s t u v c.in-Ok.second c.sub-outcome.result (next made.0) made.2.makes outcome freed)

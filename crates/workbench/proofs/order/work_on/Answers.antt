use Rattle.std.proofs.Common.{◌≡◌, ◌<◌, ◌-◌, length, map, sym, subst, ap, arith, ◌∙◌, true, false}
use Rattle.poly_model.specs.Reduction.{has_polynomial, primitive_initial}
use Rattle.proof_steps.specs.declared.step.Attempt.TheVariants as attempt
use Rattle.polynomials.specs.Held.{polynomial_at}
use Rattle.term_store.proofs.Making as making
use Rattle.workbench.specs.Standing.{node_at, held_at, AreFound}
use Rattle.workbench.specs.Searches as searches
use Rattle.workbench.proofs.Owning as owning
use Rattle.workbench.proofs.Benches as benches
use Rattle.workbench.proofs.Tied as tied
use Rattle.workbench.proofs.Choice as choice
use Rattle.workbench.proofs.order.work_on.Goals as goal

pub overflow_sub-f : goal.overflow_sub-f
overflow_sub-f g c =
    let b = c.args.bench.now in
    let p = choice.least-place (g.S.TermStore.state c.args.s.now) b c.args.x c.requires.stands.tell c.requires.some c.requires.class in
    let is = c.least-f.ensures.place ∙ ap (λ l. searches.least_in l c.args.x) c.deref.ensures.value in
    let low = p.0 in
    omega (arith, low, is)

pub returns-then-h-clause-attempt : goal.returns-then-h-clause-attempt
returns-then-h-clause-attempt g c =
    let s = g.S.TermStore.state c.args.s.now in
    let b = c.args.bench.now in
    let p = choice.least-place s b c.args.x c.requires.stands.tell c.requires.some c.requires.class in
    let is = c.least-f.ensures.place ∙ ap (λ l. searches.least_in l c.args.x) c.deref.ensures.value in
    let below : c.least-f.result - 1 < length b.eqs.items = subst (λ k. k - 1 < length b.eqs.items) (sym is) p.1 in
    let others = tied.other-tied (held_at s) (node_at s b).nes b.eqs.items c.args.x c.least-f.result c.requires.stands.tell in
    let work = choice.work-is s b c.args.x c.least-f.result c.index-h.result.now c.requires.stands.tell is below c.index-h.ensures in
    sym (work ∙ ap (λ k. choice.work_by (node_at s b) c.args.x c.least-f.result k (has_polynomial (node_at s b).eqs (primitive_initial (held_at s c.index-h.result.now)))) c.if-h.true
    ∙ ap (λ k. attempt.Red k c.least-f.result) (others ∙ sym (c.other.ensures.place ∙ ap (λ l. searches.other_in l c.args.x c.least-f.result) c.deref-then-h.ensures.value)))

pub primitive_initial-initial-requires-clause-p : goal.primitive_initial-initial-requires-clause-p
primitive_initial-initial-requires-clause-p g c =
    let s = g.S.TermStore.state c.args.s.now in
    let b = c.args.bench.now in
    let p = choice.least-place s b c.args.x c.requires.stands.tell c.requires.some c.requires.class in
    let is = c.least-f.ensures.place ∙ ap (λ l. searches.least_in l c.args.x) c.deref.ensures.value in
    let below : c.least-f.result - 1 < length b.eqs.items = subst (λ k. k - 1 < length b.eqs.items) (sym is) p.1 in
    benches.equation-poly _ _ _ b _ c.index-h.result.now c.requires.stands below c.index-h.ensures

pub is_equation-found-requires-clause-hs : goal.is_equation-found-requires-clause-hs
is_equation-found-requires-clause-hs g c =
    let t = g.S.TermStore.state c.primitive_initial-initial.new.s in
    subst (AreFound t) (sym c.deref-2.ensures.value)
    (choice.found-within (g.S.TermStore.state c.args.s.now) t c.args.bench.now.eqs.items (owning.within-makes _ _ _ c.primitive_initial-initial.ensures.makes) (choice.found-all _ _ _ c.args.bench.now c.requires.stands))

pub is_equation-found-requires-clause-p : goal.is_equation-found-requires-clause-p
is_equation-found-requires-clause-p g c = benches.gives-poly _ _ _ _ c.primitive_initial-initial.ensures

pub give_up-requires : goal.give_up-requires
give_up-requires g c = making.makes-live _ _ _ c.primitive_initial-initial.ensures.makes

pub returns-then-found-clause-attempt : goal.returns-then-found-clause-attempt
returns-then-found-clause-attempt g c =
    let s = g.S.TermStore.state c.args.s.now in
    let t = g.S.TermStore.state c.primitive_initial-initial.new.s in
    let b = c.args.bench.now in
    let p = choice.least-place s b c.args.x c.requires.stands.tell c.requires.some c.requires.class in
    let is = c.least-f.ensures.place ∙ ap (λ l. searches.least_in l c.args.x) c.deref.ensures.value in
    let below : c.least-f.result - 1 < length b.eqs.items = subst (λ k. k - 1 < length b.eqs.items) (sym is) p.1 in
    let work = choice.work-is s b c.args.x c.least-f.result c.index-h.result.now c.requires.stands.tell is below c.index-h.ensures in
    let eqs = benches.seen-held t s b.eqs.items (owning.within-makes s t _ c.primitive_initial-initial.ensures.makes) (owning.live-front s _ _ (benches.bench-live _ s _ b c.requires.stands)) in
    let there : has_polynomial (node_at s b).eqs (primitive_initial (held_at s c.index-h.result.now)) ≡ true =
    (λ i. has_polynomial (eqs i) (sym c.primitive_initial-initial.ensures.value i)) ∙ sym (c.is_equation-found.ensures ∙ ap (λ l. has_polynomial (map (held_at t) l) (polynomial_at t c.primitive_initial-initial.result)) c.deref-2.ensures.value) ∙ c.if-found.true in
    sym (work ∙ (λ i. choice.work_by (node_at s b) c.args.x c.least-f.result (c.if-h.false i) (there i)))

pub returns-then-found-clause-kept : goal.returns-then-found-clause-kept
returns-then-found-clause-kept g c = making.makes-freed _ _ _ _ c.primitive_initial-initial.ensures.makes c.give_up.ensures.lists c.give_up.ensures.spare

pub returns-else-found-clause-attempt : goal.returns-else-found-clause-attempt
returns-else-found-clause-attempt g c =
    let s = g.S.TermStore.state c.args.s.now in
    let t = g.S.TermStore.state c.primitive_initial-initial.new.s in
    let b = c.args.bench.now in
    let p = choice.least-place s b c.args.x c.requires.stands.tell c.requires.some c.requires.class in
    let is = c.least-f.ensures.place ∙ ap (λ l. searches.least_in l c.args.x) c.deref.ensures.value in
    let below : c.least-f.result - 1 < length b.eqs.items = subst (λ k. k - 1 < length b.eqs.items) (sym is) p.1 in
    let work = choice.work-is s b c.args.x c.least-f.result c.index-h.result.now c.requires.stands.tell is below c.index-h.ensures in
    let eqs = benches.seen-held t s b.eqs.items (owning.within-makes s t _ c.primitive_initial-initial.ensures.makes) (owning.live-front s _ _ (benches.bench-live _ s _ b c.requires.stands)) in
    let there : has_polynomial (node_at s b).eqs (primitive_initial (held_at s c.index-h.result.now)) ≡ false =
    (λ i. has_polynomial (eqs i) (sym c.primitive_initial-initial.ensures.value i)) ∙ sym (c.is_equation-found.ensures ∙ ap (λ l. has_polynomial (map (held_at t) l) (polynomial_at t c.primitive_initial-initial.result)) c.deref-2.ensures.value) ∙ c.if-found.false in
    sym (work ∙ (λ i. choice.work_by (node_at s b) c.args.x c.least-f.result (c.if-h.false i) (there i)))

pub returns-else-found-clause-kept : goal.returns-else-found-clause-kept
returns-else-found-clause-kept g c = making.makes-freed _ _ _ _ c.primitive_initial-initial.ensures.makes c.give_up.ensures.lists c.give_up.ensures.spare

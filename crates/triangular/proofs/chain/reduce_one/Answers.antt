use Rattle.std.proofs.Common.{◌≡◌, ◌-◌, ◌<◌, [], ◌∷◌, ◌++◌, List, ℕ, length, map, refl, sym, ◌∙◌, ap, subst, arith}
use Rattle.std.proofs.Common.{rules}
use Rattle.std.proofs.lemmas.Int.{to_z-of_z}
use mir.Syntax.{w128}
use mir.Val.{SFits}
use Rattle.poly_model.specs.Polynomial.{Polynomial}
use Rattle.poly_model.specs.Bounded.{bounded_reduction}
use Rattle.term_store.specs.Changes.{given_up}
use Rattle.term_store.proofs.Making as making
use Rattle.polynomials.specs.Held.{polynomial_at, slot_of}
use Rattle.polynomials.proofs.Results as results
use Rattle.pseudo_div.specs.Advances.{Advances}
use Rattle.workbench.specs.Standing.{held_at}
use Rattle.workbench.proofs.Owning as owning
use Rattle.proof_steps.specs.declared.piece.ChainStep.{ChainStep}
use Rattle.triangular.specs.Chains.{Chains, Ends}
use Rattle.triangular.proofs.Reducing as reducing
use Rattle.triangular.proofs.Chained as chained
use Rattle.triangular.proofs.Beside as beside
use Rattle.triangular.proofs.chain.reduce_one.Goals as goal

pub reducing_class-x-requires-clause-hs : goal.reducing_class-x-requires-clause-hs
reducing_class-x-requires-clause-hs g c =
    reducing.within-told [] c.args.hs.now _ c.requires.tell

pub returns-then-x-eq0-clause-comes : goal.returns-then-x-eq0-clause-comes
returns-then-x-eq0-clause-comes g c =
    let s = g.S.TermStore.state c.args.s.now in
    let t = g.S.TermStore.state c.loop-alloc.s in
    let base = given_up s (slot_of c.args.p) in
    let hs = c.args.hs.now in
    let E = map (held_at base) hs in
    let rest = c.loop-alloc.rest in
    let R = polynomial_at t rest in
    let inv = c.loop-alloc.invariant in
    let long : 0 < length R = omega (arith, c.term_count.ensures, c.loop-alloc-test.true) in
    let none = sym (reducing.reducing-tied [] R hs E c.requires.tell) ∙ sym c.reducing_class-x.ensures ∙ c.if-x-eq0.true in
    beside.ok-map _ _ c.remainder.result
    (λ o e cons others whole before. subst (Ends E cons whole c.args.k others c.loop-alloc.chain.steps.items c.loop-alloc.chain.left) (sym e)
    (chained.stays E cons whole c.args.k R others c.loop-alloc.chain.steps.items c.loop-alloc.chain.left long none (inv.goes cons others whole before))) c.remainder.ensures.status

pub equation-by-requires-clause-low : goal.equation-by-requires-clause-low
equation-by-requires-clause-low g c =
    let s = g.S.TermStore.state c.args.s.now in
    let t = g.S.TermStore.state c.loop-alloc.s in
    let base = given_up s (slot_of c.args.p) in
    let hs = c.args.hs.now in
    let E = map (held_at base) hs in
    let rest = c.loop-alloc.rest in
    let R = polynomial_at t rest in
    let inv = c.loop-alloc.invariant in
    let x = c.reducing_class-x.result in
    let f = c.first_of_class-f.result in
    let place = beside.placed base [] hs R x f c.requires.tell c.requires.own c.reducing_class-x.ensures c.if-x-eq0.false c.first_of_class-f.ensures.place in
    place.low

pub equation-by-requires-clause-below : goal.equation-by-requires-clause-below
equation-by-requires-clause-below g c =
    let s = g.S.TermStore.state c.args.s.now in
    let t = g.S.TermStore.state c.loop-alloc.s in
    let base = given_up s (slot_of c.args.p) in
    let hs = c.args.hs.now in
    let E = map (held_at base) hs in
    let rest = c.loop-alloc.rest in
    let R = polynomial_at t rest in
    let inv = c.loop-alloc.invariant in
    let x = c.reducing_class-x.result in
    let f = c.first_of_class-f.result in
    let place = beside.placed base [] hs R x f c.requires.tell c.requires.own c.reducing_class-x.ensures c.if-x-eq0.false c.first_of_class-f.ensures.place in
    place.below

pub step_on-requires-clause-f : goal.step_on-requires-clause-f
step_on-requires-clause-f g c =
    let s = g.S.TermStore.state c.args.s.now in
    let t = g.S.TermStore.state c.loop-alloc.s in
    let base = given_up s (slot_of c.args.p) in
    let hs = c.args.hs.now in
    let E = map (held_at base) hs in
    let rest = c.loop-alloc.rest in
    let R = polynomial_at t rest in
    let inv = c.loop-alloc.invariant in
    let x = c.reducing_class-x.result in
    let f = c.first_of_class-f.result in
    let place = beside.placed base [] hs R x f c.requires.tell c.requires.own c.reducing_class-x.ensures c.if-x-eq0.false c.first_of_class-f.ensures.place in
    let h = c.equation-by.result in
    let pick = beside.picked base t (slot_of rest) hs R x f h inv.under c.requires.found place c.equation-by.ensures in
    pick.poly

pub step_on-requires-clause-class : goal.step_on-requires-clause-class
step_on-requires-clause-class g c =
    let s = g.S.TermStore.state c.args.s.now in
    let t = g.S.TermStore.state c.loop-alloc.s in
    let base = given_up s (slot_of c.args.p) in
    let hs = c.args.hs.now in
    let E = map (held_at base) hs in
    let rest = c.loop-alloc.rest in
    let R = polynomial_at t rest in
    let inv = c.loop-alloc.invariant in
    let x = c.reducing_class-x.result in
    let f = c.first_of_class-f.result in
    let place = beside.placed base [] hs R x f c.requires.tell c.requires.own c.reducing_class-x.ensures c.if-x-eq0.false c.first_of_class-f.ensures.place in
    let h = c.equation-by.result in
    let pick = beside.picked base t (slot_of rest) hs R x f h inv.under c.requires.found place c.equation-by.ensures in
    pick.class

pub step_on-requires-clause-reaches : goal.step_on-requires-clause-reaches
step_on-requires-clause-reaches g c =
    let s = g.S.TermStore.state c.args.s.now in
    let t = g.S.TermStore.state c.loop-alloc.s in
    let base = given_up s (slot_of c.args.p) in
    let hs = c.args.hs.now in
    let E = map (held_at base) hs in
    let rest = c.loop-alloc.rest in
    let R = polynomial_at t rest in
    let inv = c.loop-alloc.invariant in
    let x = c.reducing_class-x.result in
    let f = c.first_of_class-f.result in
    let place = beside.placed base [] hs R x f c.requires.tell c.requires.own c.reducing_class-x.ensures c.if-x-eq0.false c.first_of_class-f.ensures.place in
    let h = c.equation-by.result in
    let pick = beside.picked base t (slot_of rest) hs R x f h inv.under c.requires.found place c.equation-by.ensures in
    pick.reached

pub returns-in-Ok-Stopped-clause-comes : goal.returns-in-Ok-Stopped-clause-comes
returns-in-Ok-Stopped-clause-comes g c =
    let s = g.S.TermStore.state c.args.s.now in
    let t = g.S.TermStore.state c.loop-alloc.s in
    let base = given_up s (slot_of c.args.p) in
    let hs = c.args.hs.now in
    let E = map (held_at base) hs in
    let rest = c.loop-alloc.rest in
    let R = polynomial_at t rest in
    let inv = c.loop-alloc.invariant in
    let long : 0 < length R = omega (arith, c.term_count.ensures, c.loop-alloc-test.true) in
    let x = c.reducing_class-x.result in
    let f = c.first_of_class-f.result in
    let place = beside.placed base [] hs R x f c.requires.tell c.requires.own c.reducing_class-x.ensures c.if-x-eq0.false c.first_of_class-f.ensures.place in
    let h = c.equation-by.result in
    let pick = beside.picked base t (slot_of rest) hs R x f h inv.under c.requires.found place c.equation-by.ensures in
    let u = g.S.TermStore.state c.step_on.new.s in
    let F = held_at t h in
    let whole = bounded_reduction R F in
    let stop = subst (Advances t u rest c.loop-alloc.chain.left whole) c.in-Ok-Stopped.field-0-is c.in-Ok-Stopped.ensures.ok in
    λ cons others total before. chained.stopped E cons total c.args.k (x - 1) f R others c.loop-alloc.chain.steps.items c.loop-alloc.chain.left c.in-Ok-Stopped.reason long place.reducing place.first
    (beside.stop-is R F _ c.loop-alloc.chain.left c.in-Ok-Stopped.reason pick.here inv.poly.standard pick.poly.standard stop.0) (inv.goes cons others total before)
    ∙ (λ i. (c.loop-alloc.chain.steps.items, sym c.unreduced.ensures i))

pub give_up-requires-in-Err-add_step : goal.give_up-requires-in-Err-add_step
give_up-requires-in-Err-add_step g c =
    let s = g.S.TermStore.state c.args.s.now in
    let t = g.S.TermStore.state c.loop-alloc.s in
    let base = given_up s (slot_of c.args.p) in
    let hs = c.args.hs.now in
    let E = map (held_at base) hs in
    let rest = c.loop-alloc.rest in
    let R = polynomial_at t rest in
    let inv = c.loop-alloc.invariant in
    let x = c.reducing_class-x.result in
    let f = c.first_of_class-f.result in
    let place = beside.placed base [] hs R x f c.requires.tell c.requires.own c.reducing_class-x.ensures c.if-x-eq0.false c.first_of_class-f.ensures.place in
    let h = c.equation-by.result in
    let pick = beside.picked base t (slot_of rest) hs R x f h inv.under c.requires.found place c.equation-by.ensures in
    let u = g.S.TermStore.state c.step_on.new.s in
    let F = held_at t h in
    let whole = bounded_reduction R F in
    let next = c.in-Ok-Stepped.next in
    let result = c.in-Ok-Stepped.result in
    let m = c.in-Ok-Stepped.multiplier in
    let step = subst (Advances t u rest c.loop-alloc.chain.left whole) c.in-Ok-Stepped.field-0-is c.in-Ok-Stepped.ensures.ok in
    making.makes-live (given_up t (slot_of rest)) u (slot_of next) step.3.makes

pub returns-in-Err-add_step-clause-kept : goal.returns-in-Err-add_step-clause-kept
returns-in-Err-add_step-clause-kept g c =
    let s = g.S.TermStore.state c.args.s.now in
    let t = g.S.TermStore.state c.loop-alloc.s in
    let base = given_up s (slot_of c.args.p) in
    let hs = c.args.hs.now in
    let E = map (held_at base) hs in
    let rest = c.loop-alloc.rest in
    let R = polynomial_at t rest in
    let inv = c.loop-alloc.invariant in
    let x = c.reducing_class-x.result in
    let f = c.first_of_class-f.result in
    let place = beside.placed base [] hs R x f c.requires.tell c.requires.own c.reducing_class-x.ensures c.if-x-eq0.false c.first_of_class-f.ensures.place in
    let h = c.equation-by.result in
    let pick = beside.picked base t (slot_of rest) hs R x f h inv.under c.requires.found place c.equation-by.ensures in
    let u = g.S.TermStore.state c.step_on.new.s in
    let F = held_at t h in
    let whole = bounded_reduction R F in
    let next = c.in-Ok-Stepped.next in
    let result = c.in-Ok-Stepped.result in
    let m = c.in-Ok-Stepped.multiplier in
    let step = subst (Advances t u rest c.loop-alloc.chain.left whole) c.in-Ok-Stepped.field-0-is c.in-Ok-Stepped.ensures.ok in
    let v = g.S.TermStore.state c.give_up-in-Err-add_step.new.s in
    owning.keeps-then base (given_up t (slot_of rest)) v inv.under
    (making.makes-freed (given_up t (slot_of rest)) u v (slot_of next) step.3.makes c.give_up-in-Err-add_step.ensures.lists c.give_up-in-Err-add_step.ensures.spare)

pub loop-alloc-preserved : goal.loop-alloc-preserved
loop-alloc-preserved g c =
    let s = g.S.TermStore.state c.args.s.now in
    let t = g.S.TermStore.state c.loop-alloc.s in
    let base = given_up s (slot_of c.args.p) in
    let hs = c.args.hs.now in
    let E = map (held_at base) hs in
    let rest = c.loop-alloc.rest in
    let R = polynomial_at t rest in
    let inv = c.loop-alloc.invariant in
    let long : 0 < length R = omega (arith, c.term_count.ensures, c.loop-alloc-test.true) in
    let x = c.reducing_class-x.result in
    let f = c.first_of_class-f.result in
    let place = beside.placed base [] hs R x f c.requires.tell c.requires.own c.reducing_class-x.ensures c.if-x-eq0.false c.first_of_class-f.ensures.place in
    let h = c.equation-by.result in
    let pick = beside.picked base t (slot_of rest) hs R x f h inv.under c.requires.found place c.equation-by.ensures in
    let u = g.S.TermStore.state c.step_on.new.s in
    let F = held_at t h in
    let whole = bounded_reduction R F in
    let next = c.in-Ok-Stepped.next in
    let result = c.in-Ok-Stepped.result in
    let m = c.in-Ok-Stepped.multiplier in
    let step = subst (Advances t u rest c.loop-alloc.chain.left whole) c.in-Ok-Stepped.field-0-is c.in-Ok-Stepped.ensures.ok in
    let made = step.3 in
    let steps = c.loop-alloc.chain.steps.items in
    let left = c.loop-alloc.chain.left in
    let fits : SFits w128 m = search rules in
    let items : steps ++ record { k = c.args.k; f = f; m = m; r = result } ∷ [] ≡ c.add_step.new.chain.steps.items =
    ap (λ z. steps ++ record { k = c.args.k; f = f; m = z; r = result } ∷ []) (sym (to_z-of_z w128 m fits)) ∙ sym c.in_default.ensures in
    record {
      poly = results.made-poly (given_up t (slot_of rest)) u next result made;
      under = owning.keeps-then base (given_up t (slot_of rest)) (given_up u (slot_of next)) inv.under
          (making.makes-freed (given_up t (slot_of rest)) u (given_up u (slot_of next)) (slot_of next) made.makes refl refl);
      goes = λ cons others total before.
          subst (λ (q : Polynomial). Chains E cons total c.args.k (q ∷ others) c.add_step.new.chain.steps.items c.in-Ok-Stepped.fuel) (sym made.value)
          (subst (λ (l : List ChainStep × ℕ). Chains E cons total c.args.k (result ∷ others) l.0 l.1) (λ i. (items i, sym step.2 i))
          (chained.stepped E cons total c.args.k (x - 1) f R others steps left m result long place.reducing place.first
          (beside.free-is R F _ left (m, result) pick.here inv.poly.standard pick.poly.standard step.0 step.1)
          (beside.result-is R F _ (m, result) pick.here inv.poly.standard pick.poly.standard step.0) step.1 (inv.goes cons others total before)));
    }

pub returns-clause-comes : goal.returns-clause-comes
returns-clause-comes g c =
    let s = g.S.TermStore.state c.args.s.now in
    let t = g.S.TermStore.state c.loop-alloc.s in
    let base = given_up s (slot_of c.args.p) in
    let hs = c.args.hs.now in
    let E = map (held_at base) hs in
    let rest = c.loop-alloc.rest in
    let R = polynomial_at t rest in
    let inv = c.loop-alloc.invariant in
    let none : length R ≡ 0 = omega (arith, c.term_count.ensures, c.loop-alloc-test.false) in
    λ cons others whole before. chained.zero-at E cons whole c.args.k R others c.loop-alloc.chain.steps.items c.loop-alloc.chain.left none (inv.goes cons others whole before)

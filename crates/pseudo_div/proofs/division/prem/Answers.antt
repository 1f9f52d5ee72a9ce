use Rattle.std.proofs.Common.{◌≡◌, refl, [], ◌∷◌, ◌++◌, length, sym, ◌∙◌, ap, subst, arith, false}
use Rattle.std.specs.Prelude.{Some}
use Rattle.std.proofs.Common.{rules}
use Rattle.std.proofs.lemmas.Int.{to_z-of_z}
use mir.Syntax.{w128}
use mir.Val.{SFits}
use Rattle.poly_model.specs.Reduction.{class_of, degree_at, reaches}
use Rattle.poly_model.specs.Bounded.{bounded_reduction}
use Rattle.poly_model.specs.declared.limits.TheConstants.{MOST_VARIABLES}
use Rattle.poly_model.proofs.Within.{within-of}
use Rattle.poly_model.proofs.Division.{standing}
use Rattle.term_store.specs.States.{IsLive}
use Rattle.term_store.specs.Changes.{given_up}
use Rattle.term_store.proofs.Making as making
use Rattle.polynomials.specs.Held.{Gives, slot_of, polynomial_at}
use Rattle.polynomials.proofs.Results as results
use Rattle.pseudo_div.specs.Steps.{AreSteps, Stops, met_by, rest_after}
use Rattle.pseudo_div.specs.Advances.{Advances}
use Rattle.pseudo_div.proofs.Reducing as reducing
use Rattle.pseudo_div.proofs.Descending as descending
use Rattle.pseudo_div.proofs.division.prem.Goals as goal

pub degree-low-requires-clause-var : goal.degree-low-requires-clause-var
degree-low-requires-clause-var g c = let b = reducing.place-below _ c.args.var c.requires.f.standard c.requires.class in omega (arith, b)

pub loop-alloc-init : goal.loop-alloc-init
loop-alloc-init g c =
    let s = g.S.TermStore.state c.args.s.now in
    let t = g.S.TermStore.state c.copy-rest.new.s in
    let G = polynomial_at s c.args.g in
    let F = polynomial_at s c.args.f in
    record {
      made = subst (λ xs. Gives s t c.copy-rest.result (rest_after G F xs)) (sym c.new-steps.ensures.items) c.copy-rest.ensures;
      paid = subst (λ xs. AreSteps F xs G c.args.fuel (rest_after G F xs) c.args.fuel) (sym c.new-steps.ensures.items) (refl, refl);
    }

pub degree-requires-clause-a : goal.degree-requires-clause-a
degree-requires-clause-a g c =
    let s = g.S.TermStore.state c.args.s.now in
    let t = g.S.TermStore.state c.loop-alloc.s in
    let G = polynomial_at s c.args.g in
    let F = polynomial_at s c.args.f in
    let steps = c.loop-alloc.steps.items in
    let rest = c.loop-alloc.rest in
    let R = rest_after G F steps in
    let made = c.loop-alloc.invariant.made in
    results.made-poly s t rest R made

pub degree-requires-clause-var : goal.degree-requires-clause-var
degree-requires-clause-var g c = let b = reducing.place-below _ c.args.var c.requires.f.standard c.requires.class in omega (arith, b)

pub step_on-requires-clause-rest : goal.step_on-requires-clause-rest
step_on-requires-clause-rest g c =
    let s = g.S.TermStore.state c.args.s.now in
    let t = g.S.TermStore.state c.loop-alloc.s in
    let G = polynomial_at s c.args.g in
    let F = polynomial_at s c.args.f in
    let steps = c.loop-alloc.steps.items in
    let rest = c.loop-alloc.rest in
    let R = rest_after G F steps in
    let made = c.loop-alloc.invariant.made in
    results.made-poly s t rest R made

pub step_on-requires-clause-f : goal.step_on-requires-clause-f
step_on-requires-clause-f g c =
    let s = g.S.TermStore.state c.args.s.now in
    let t = g.S.TermStore.state c.loop-alloc.s in
    let G = polynomial_at s c.args.g in
    let F = polynomial_at s c.args.f in
    let steps = c.loop-alloc.steps.items in
    let rest = c.loop-alloc.rest in
    let R = rest_after G F steps in
    let made = c.loop-alloc.invariant.made in
    results.kept-poly s t (slot_of rest) c.args.f made.makes c.requires.f

pub step_on-requires-clause-class : goal.step_on-requires-clause-class
step_on-requires-clause-class g c =
    let s = g.S.TermStore.state c.args.s.now in
    let t = g.S.TermStore.state c.loop-alloc.s in
    let G = polynomial_at s c.args.g in
    let F = polynomial_at s c.args.f in
    let steps = c.loop-alloc.steps.items in
    let rest = c.loop-alloc.rest in
    let R = rest_after G F steps in
    let made = c.loop-alloc.invariant.made in
    let value = results.kept-value s t (slot_of rest) c.args.f made.makes c.requires.f in
    ap class_of value ∙ c.requires.class

pub step_on-requires-clause-reaches : goal.step_on-requires-clause-reaches
step_on-requires-clause-reaches g c =
    let s = g.S.TermStore.state c.args.s.now in
    let t = g.S.TermStore.state c.loop-alloc.s in
    let G = polynomial_at s c.args.g in
    let F = polynomial_at s c.args.f in
    let steps = c.loop-alloc.steps.items in
    let rest = c.loop-alloc.rest in
    let R = rest_after G F steps in
    let made = c.loop-alloc.invariant.made in
    let value = results.kept-value s t (slot_of rest) c.args.f made.makes c.requires.f in
    let low = c.degree-low.ensures in
    let high = c.degree.ensures ∙ ap (degree_at c.args.var) made.value in
    (λ i. reaches (made.value i) (value i)) ∙ reducing.reaches-of R F c.args.var c.requires.class (omega (arith, low, high, c.loop-alloc-test.true))

pub step_on-requires-clause-room : goal.step_on-requires-clause-room
step_on-requires-clause-room g c =
    let s = g.S.TermStore.state c.args.s.now in
    let t = g.S.TermStore.state c.loop-alloc.s in
    let G = polynomial_at s c.args.g in
    let F = polynomial_at s c.args.f in
    let steps = c.loop-alloc.steps.items in
    let rest = c.loop-alloc.rest in
    let R = rest_after G F steps in
    let made = c.loop-alloc.invariant.made in
    let spare = results.gives-spare s t rest R made in
    omega (arith, spare, c.requires.room)

pub free-requires : goal.free-requires
free-requires g c =
    let s = g.S.TermStore.state c.args.s.now in
    let t = g.S.TermStore.state c.loop-alloc.s in
    let G = polynomial_at s c.args.g in
    let F = polynomial_at s c.args.f in
    let steps = c.loop-alloc.steps.items in
    let rest = c.loop-alloc.rest in
    let R = rest_after G F steps in
    let made = c.loop-alloc.invariant.made in
    results.live-at _ _ _ c.slot.ensures (subst (λ m. IsLive m (slot_of rest)) (sym c.in-Err.ensures.refused.lists) (making.makes-live s t (slot_of rest) made.makes))

pub returns-in-Err-clause-refused : goal.returns-in-Err-clause-refused
returns-in-Err-clause-refused g c =
    let s = g.S.TermStore.state c.args.s.now in
    let t = g.S.TermStore.state c.loop-alloc.s in
    let G = polynomial_at s c.args.g in
    let F = polynomial_at s c.args.f in
    let steps = c.loop-alloc.steps.items in
    let rest = c.loop-alloc.rest in
    let R = rest_after G F steps in
    let made = c.loop-alloc.invariant.made in
    let u = g.S.TermStore.state c.step_on.new.s in
    let v = g.S.TermStore.state c.free.new.self in
    results.keeps-freed s t u v (slot_of rest) made.makes c.in-Err.ensures.refused (results.freed u v _ _ c.slot.ensures c.free.ensures.lists c.free.ensures.spare)

pub returns-in-Ok-Stopped-clause-rest : goal.returns-in-Ok-Stopped-clause-rest
returns-in-Ok-Stopped-clause-rest g c =
    let s = g.S.TermStore.state c.args.s.now in
    let t = g.S.TermStore.state c.loop-alloc.s in
    let G = polynomial_at s c.args.g in
    let F = polynomial_at s c.args.f in
    let steps = c.loop-alloc.steps.items in
    let rest = c.loop-alloc.rest in
    let R = rest_after G F steps in
    let made = c.loop-alloc.invariant.made in
    let value = results.kept-value s t (slot_of rest) c.args.f made.makes c.requires.f in
    let u = g.S.TermStore.state c.step_on.new.s in
    let whole = bounded_reduction (polynomial_at t rest) (polynomial_at t c.args.f) in
    let same : whole ≡ bounded_reduction R F = λ i. bounded_reduction (made.value i) (value i) in
    let stop = subst (Advances t u rest c.loop-alloc.left whole) c.in-Ok-Stopped.field-0-is c.in-Ok-Stopped.ensures.ok in
    subst (λ xs. Gives s u rest (rest_after G F xs)) (sym c.from_vec.ensures) (results.gives-kept s t u rest R made stop.1)

pub returns-in-Ok-Stopped-clause-identity : goal.returns-in-Ok-Stopped-clause-identity
returns-in-Ok-Stopped-clause-identity g c =
    let s = g.S.TermStore.state c.args.s.now in
    let t = g.S.TermStore.state c.loop-alloc.s in
    let G = polynomial_at s c.args.g in
    let F = polynomial_at s c.args.f in
    let steps = c.loop-alloc.steps.items in
    let rest = c.loop-alloc.rest in
    let R = rest_after G F steps in
    let made = c.loop-alloc.invariant.made in
    (standing MOST_VARIABLES F G (length c.from_vec.result) (within-of F c.requires.f.standard).descending (within-of G c.requires.g.standard).descending).identity

pub returns-in-Ok-Stopped-clause-steps : goal.returns-in-Ok-Stopped-clause-steps
returns-in-Ok-Stopped-clause-steps g c =
    let s = g.S.TermStore.state c.args.s.now in
    let t = g.S.TermStore.state c.loop-alloc.s in
    let G = polynomial_at s c.args.g in
    let F = polynomial_at s c.args.f in
    let steps = c.loop-alloc.steps.items in
    let rest = c.loop-alloc.rest in
    let R = rest_after G F steps in
    let made = c.loop-alloc.invariant.made in
    subst (λ xs. AreSteps F xs G c.args.fuel (rest_after G F xs) c.loop-alloc.left) (sym c.from_vec.ensures) c.loop-alloc.invariant.paid

pub returns-in-Ok-Stopped-clause-stop : goal.returns-in-Ok-Stopped-clause-stop
returns-in-Ok-Stopped-clause-stop g c =
    let s = g.S.TermStore.state c.args.s.now in
    let t = g.S.TermStore.state c.loop-alloc.s in
    let G = polynomial_at s c.args.g in
    let F = polynomial_at s c.args.f in
    let steps = c.loop-alloc.steps.items in
    let rest = c.loop-alloc.rest in
    let R = rest_after G F steps in
    let made = c.loop-alloc.invariant.made in
    let value = results.kept-value s t (slot_of rest) c.args.f made.makes c.requires.f in
    let u = g.S.TermStore.state c.step_on.new.s in
    let whole = bounded_reduction (polynomial_at t rest) (polynomial_at t c.args.f) in
    let same : whole ≡ bounded_reduction R F = λ i. bounded_reduction (made.value i) (value i) in
    let low = c.degree-low.ensures in
    let high = c.degree.ensures ∙ ap (degree_at c.args.var) made.value in
    let stop = subst (Advances t u rest c.loop-alloc.left whole) c.in-Ok-Stopped.field-0-is c.in-Ok-Stopped.ensures.ok in
    let reached = reducing.reaches-of R F c.args.var c.requires.class (omega (arith, low, high, c.loop-alloc-test.true)) in
    subst (λ xs. Stops (rest_after G F xs) F c.loop-alloc.left (Some c.in-Ok-Stopped.reason)) (sym c.from_vec.ensures)
    (reached, sym (ap (met_by c.loop-alloc.left) same) ∙ stop.0)

pub free-requires-in-Err-push : goal.free-requires-in-Err-push
free-requires-in-Err-push g c =
    let s = g.S.TermStore.state c.args.s.now in
    let t = g.S.TermStore.state c.loop-alloc.s in
    let G = polynomial_at s c.args.g in
    let F = polynomial_at s c.args.f in
    let steps = c.loop-alloc.steps.items in
    let rest = c.loop-alloc.rest in
    let R = rest_after G F steps in
    let made = c.loop-alloc.invariant.made in
    let value = results.kept-value s t (slot_of rest) c.args.f made.makes c.requires.f in
    let u = g.S.TermStore.state c.step_on.new.s in
    let whole = bounded_reduction (polynomial_at t rest) (polynomial_at t c.args.f) in
    let same : whole ≡ bounded_reduction R F = λ i. bounded_reduction (made.value i) (value i) in
    let next = c.in-Ok-Stepped.next in
    let result = c.in-Ok-Stepped.result in
    let step = subst (Advances t u rest c.loop-alloc.left whole) c.in-Ok-Stepped.field-0-is c.in-Ok-Stepped.ensures.ok in
    results.live-at _ _ _ c.slot-in-Err-push.ensures (making.makes-live (given_up t (slot_of rest)) u (slot_of next) step.3.makes)

pub returns-in-Err-push-clause-refused : goal.returns-in-Err-push-clause-refused
returns-in-Err-push-clause-refused g c =
    let s = g.S.TermStore.state c.args.s.now in
    let t = g.S.TermStore.state c.loop-alloc.s in
    let G = polynomial_at s c.args.g in
    let F = polynomial_at s c.args.f in
    let steps = c.loop-alloc.steps.items in
    let rest = c.loop-alloc.rest in
    let R = rest_after G F steps in
    let made = c.loop-alloc.invariant.made in
    let value = results.kept-value s t (slot_of rest) c.args.f made.makes c.requires.f in
    let u = g.S.TermStore.state c.step_on.new.s in
    let whole = bounded_reduction (polynomial_at t rest) (polynomial_at t c.args.f) in
    let same : whole ≡ bounded_reduction R F = λ i. bounded_reduction (made.value i) (value i) in
    let next = c.in-Ok-Stepped.next in
    let result = c.in-Ok-Stepped.result in
    let step = subst (Advances t u rest c.loop-alloc.left whole) c.in-Ok-Stepped.field-0-is c.in-Ok-Stepped.ensures.ok in
    let v = g.S.TermStore.state c.free-in-Err-push.new.self in
    let freed = results.freed u v _ _ c.slot-in-Err-push.ensures c.free-in-Err-push.ensures.lists c.free-in-Err-push.ensures.spare in
    results.keeps-again s t v rest R made (results.keeps-made (given_up t (slot_of rest)) u v (slot_of next) step.3.makes freed)

pub loop-alloc-preserved : goal.loop-alloc-preserved
loop-alloc-preserved g c =
    let s = g.S.TermStore.state c.args.s.now in
    let t = g.S.TermStore.state c.loop-alloc.s in
    let G = polynomial_at s c.args.g in
    let F = polynomial_at s c.args.f in
    let steps = c.loop-alloc.steps.items in
    let rest = c.loop-alloc.rest in
    let R = rest_after G F steps in
    let made = c.loop-alloc.invariant.made in
    let value = results.kept-value s t (slot_of rest) c.args.f made.makes c.requires.f in
    let u = g.S.TermStore.state c.step_on.new.s in
    let whole = bounded_reduction (polynomial_at t rest) (polynomial_at t c.args.f) in
    let same : whole ≡ bounded_reduction R F = λ i. bounded_reduction (made.value i) (value i) in
    let low = c.degree-low.ensures in
    let high = c.degree.ensures ∙ ap (degree_at c.args.var) made.value in
    let next = c.in-Ok-Stepped.next in
    let result = c.in-Ok-Stepped.result in
    let step = subst (Advances t u rest c.loop-alloc.left whole) c.in-Ok-Stepped.field-0-is c.in-Ok-Stepped.ensures.ok in
    let m = c.in-Ok-Stepped.multiplier in
    let fits : SFits w128 m = search rules in
    let items = c.in_default.ensures.items ∙ (λ i. steps ++ (to_z-of_z w128 m fits i, result) ∷ []) in
    let outcome = sym same ∙ step.0 in
    let reached = reducing.reaches-of R F c.args.var c.requires.class (omega (arith, low, high, c.loop-alloc-test.true)) in
    let after = ap (rest_after G F) items ∙ descending.rest-more G F steps (m, result) made.standard c.requires.f.standard outcome in
    let more = descending.steps-more F steps G c.args.fuel R c.loop-alloc.left (m, result) c.loop-alloc.invariant.paid reached outcome step.1 in
    record {
      made = subst (Gives s u next) (sym after) (results.gives-again s t u rest next R result made step.3);
      paid = subst (λ xs. AreSteps F xs G c.args.fuel (rest_after G F c.push.new.self.items) c.in-Ok-Stepped.paid) (sym items)
          (subst (λ p. AreSteps F (steps ++ (m, result) ∷ []) G c.args.fuel p c.in-Ok-Stepped.paid) (sym after)
          (subst (AreSteps F (steps ++ (m, result) ∷ []) G c.args.fuel result) (sym step.2) more));
    }

pub returns-clause-rest : goal.returns-clause-rest
returns-clause-rest g c =
    let s = g.S.TermStore.state c.args.s.now in
    let t = g.S.TermStore.state c.loop-alloc.s in
    let G = polynomial_at s c.args.g in
    let F = polynomial_at s c.args.f in
    let steps = c.loop-alloc.steps.items in
    let rest = c.loop-alloc.rest in
    let R = rest_after G F steps in
    let made = c.loop-alloc.invariant.made in
    subst (λ xs. Gives s t rest (rest_after G F xs)) (sym c.from_vec-2.ensures) made

pub returns-clause-identity : goal.returns-clause-identity
returns-clause-identity g c =
    let s = g.S.TermStore.state c.args.s.now in
    let t = g.S.TermStore.state c.loop-alloc.s in
    let G = polynomial_at s c.args.g in
    let F = polynomial_at s c.args.f in
    let steps = c.loop-alloc.steps.items in
    let rest = c.loop-alloc.rest in
    let R = rest_after G F steps in
    let made = c.loop-alloc.invariant.made in
    (standing MOST_VARIABLES F G (length c.from_vec-2.result) (within-of F c.requires.f.standard).descending (within-of G c.requires.g.standard).descending).identity

pub returns-clause-steps : goal.returns-clause-steps
returns-clause-steps g c =
    let s = g.S.TermStore.state c.args.s.now in
    let t = g.S.TermStore.state c.loop-alloc.s in
    let G = polynomial_at s c.args.g in
    let F = polynomial_at s c.args.f in
    let steps = c.loop-alloc.steps.items in
    let rest = c.loop-alloc.rest in
    let R = rest_after G F steps in
    let made = c.loop-alloc.invariant.made in
    subst (λ xs. AreSteps F xs G c.args.fuel (rest_after G F xs) c.loop-alloc.left) (sym c.from_vec-2.ensures) c.loop-alloc.invariant.paid

pub returns-clause-stop : goal.returns-clause-stop
returns-clause-stop g c =
    let s = g.S.TermStore.state c.args.s.now in
    let t = g.S.TermStore.state c.loop-alloc.s in
    let G = polynomial_at s c.args.g in
    let F = polynomial_at s c.args.f in
    let steps = c.loop-alloc.steps.items in
    let rest = c.loop-alloc.rest in
    let R = rest_after G F steps in
    let made = c.loop-alloc.invariant.made in
    let low = c.degree-low.ensures in
    let high = c.degree.ensures ∙ ap (degree_at c.args.var) made.value in
    subst (λ xs. reaches (rest_after G F xs) F ≡ false) (sym c.from_vec-2.ensures)
    (reducing.reaches-not R F c.args.var c.requires.class (omega (arith, low, high, c.loop-alloc-test.false)))

use Rattle.std.specs.Prelude.{Ok, Err}
use Rattle.std.proofs.Common.{length, sym, ◌∙◌, ap, subst, arith}
use Rattle.poly_model.specs.Polynomial.{IsDescending}
use Rattle.poly_model.specs.Standard.{are_bounded, polynomial_of}
use Rattle.poly_model.specs.Bounded.{bounded_sum, bounded_difference}
use Rattle.poly_model.specs.declared.limits.TheConstants.{MOST_VARIABLES}
use Rattle.poly_model.proofs.Within.{within-of}
use Rattle.poly_model.proofs.Standards.{negative-within, bounded_difference-standard}
use Rattle.term_store.specs.States.{list_at}
use Rattle.term_store.proofs.Making as making
use Rattle.polynomials.specs.Held.{Outcome, polynomial_at}
use Rattle.polynomials.proofs.Steps as steps
use Rattle.polynomials.proofs.Outcomes as outcomes
use Rattle.polynomials.proofs.PieceLaws.{pieces-negated}
use Rattle.polynomials.proofs.sums.sub.Goals as goal

pub changed-minus-requires-clause-takes : goal.changed-minus-requires-clause-takes
changed-minus-requires-clause-takes g c = (within-of (polynomial_at (g.S.TermStore.state c.args.s.now) c.args.b) c.requires.b.standard).bounded

pub sum_in-outcome-requires-clause-live_a : goal.sum_in-outcome-requires-clause-live_a
sum_in-outcome-requires-clause-live_a g c = making.makes-other-live _ _ _ _ c.changed-minus.ensures.made c.requires.a.live

pub sum_in-outcome-requires-clause-live_b : goal.sum_in-outcome-requires-clause-live_b
sum_in-outcome-requires-clause-live_b g c = making.makes-live _ _ _ c.changed-minus.ensures.made

pub sum_in-outcome-requires-clause-descending_a : goal.sum_in-outcome-requires-clause-descending_a
sum_in-outcome-requires-clause-descending_a g c =
    subst (λ l. IsDescending MOST_VARIABLES (polynomial_of l)) (sym (making.makes-other _ _ _ _ c.changed-minus.ensures.made c.requires.a.live))
    (within-of (polynomial_at (g.S.TermStore.state c.args.s.now) c.args.a) c.requires.a.standard).descending

pub sum_in-outcome-requires-clause-descending_b : goal.sum_in-outcome-requires-clause-descending_b
sum_in-outcome-requires-clause-descending_b g c =
    let q = polynomial_at (g.S.TermStore.state c.args.s.now) c.args.b in
    subst (IsDescending MOST_VARIABLES) (sym (c.changed-minus.ensures.value ∙ pieces-negated q)) (negative-within q (within-of q c.requires.b.standard)).descending

pub sum_in-outcome-requires-clause-bounded_a : goal.sum_in-outcome-requires-clause-bounded_a
sum_in-outcome-requires-clause-bounded_a g c =
    ap (λ l. are_bounded (polynomial_of l)) (making.makes-other _ _ _ _ c.changed-minus.ensures.made c.requires.a.live)
    ∙ (within-of (polynomial_at (g.S.TermStore.state c.args.s.now) c.args.a) c.requires.a.standard).bounded

pub sum_in-outcome-requires-clause-bounded_b : goal.sum_in-outcome-requires-clause-bounded_b
sum_in-outcome-requires-clause-bounded_b g c =
    let q = polynomial_at (g.S.TermStore.state c.args.s.now) c.args.b in
    ap are_bounded (c.changed-minus.ensures.value ∙ pieces-negated q) ∙ (negative-within q (within-of q c.requires.b.standard)).bounded

pub sum_in-outcome-requires-clause-room : goal.sum_in-outcome-requires-clause-room
sum_in-outcome-requires-clause-room g c =
    let s = g.S.TermStore.state c.args.s.now in
    let t = g.S.TermStore.state c.changed-minus.new.s in
    let q = polynomial_at s c.args.b in
    let minus = list_at t.lists c.changed-minus.result.0 in
    let short = sym (steps.polynomial-length minus) ∙ ap length (c.changed-minus.ensures.value ∙ pieces-negated q) ∙ outcomes.negative-long q ∙ steps.polynomial-length (list_at s.lists c.args.b.slot.0) in
    let a = outcomes.few s c.args.a.slot.0 c.requires.a.standard in
    let b = outcomes.few s c.args.b.slot.0 c.requires.b.standard in
    let kept = ap length (making.makes-other _ _ _ _ c.changed-minus.ensures.made c.requires.a.live) in
    let spare = c.changed-minus.ensures.made.spare in
    omega (arith, short, a, b, kept, spare, c.requires.room)

pub free-requires : goal.free-requires
free-requires g c = outcomes.outcome-live _ _ _ _ _ c.sum_in-outcome.ensures (making.makes-live _ _ _ c.changed-minus.ensures.made)

pub returns-in-Ok : goal.returns-in-Ok
returns-in-Ok g c =
    let s = g.S.TermStore.state c.args.s.now in
    let t = g.S.TermStore.state c.changed-minus.new.s in
    let u = g.S.TermStore.state c.sum_in-outcome.new.s in
    let v = g.S.TermStore.state c.free.new.self in
    let p = polynomial_at s c.args.a in
    let q = polynomial_at s c.args.b in
    let minus = c.changed-minus.ensures.value ∙ pieces-negated q in
    let kept = ap polynomial_of (making.makes-other _ _ _ _ c.changed-minus.ensures.made c.requires.a.live) in
    let outcome = subst (λ r. Outcome t u r (bounded_difference p q)) c.in-Ok.is
    (subst (Outcome t u c.sum_in-outcome.result) (λ i. bounded_sum (kept i) (minus i)) c.sum_in-outcome.ensures) in
    let freed = outcomes.outcome-freed s t u v c.changed-minus.result.0 (Ok c.in-Ok.slot) (bounded_difference p q) c.changed-minus.ensures.made outcome c.free.ensures.lists c.free.ensures.spare in
    outcomes.answers-of s v c.in-Ok.slot (bounded_difference p q) freed (λ r e. bounded_difference-standard p q r c.requires.a.standard c.requires.b.standard e)

pub returns-in-Err : goal.returns-in-Err
returns-in-Err g c =
    let s = g.S.TermStore.state c.args.s.now in
    let t = g.S.TermStore.state c.changed-minus.new.s in
    let u = g.S.TermStore.state c.sum_in-outcome.new.s in
    let v = g.S.TermStore.state c.free.new.self in
    let p = polynomial_at s c.args.a in
    let q = polynomial_at s c.args.b in
    let minus = c.changed-minus.ensures.value ∙ pieces-negated q in
    let kept = ap polynomial_of (making.makes-other _ _ _ _ c.changed-minus.ensures.made c.requires.a.live) in
    let outcome = subst (λ r. Outcome t u r (bounded_difference p q)) c.in-Err.is
    (subst (Outcome t u c.sum_in-outcome.result) (λ i. bounded_sum (kept i) (minus i)) c.sum_in-outcome.ensures) in
    let freed = outcomes.outcome-freed s t u v c.changed-minus.result.0 (Err c.in-Err.limit) (bounded_difference p q) c.changed-minus.ensures.made outcome c.free.ensures.lists c.free.ensures.spare in
    outcomes.answers-limit s v c.in-Err.limit (bounded_difference p q) freed

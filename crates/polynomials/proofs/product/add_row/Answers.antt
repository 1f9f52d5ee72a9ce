use Rattle.std.proofs.Common.{◌≡◌, length, sym, ◌∙◌, ap, subst, arith}
use Rattle.poly_model.specs.Polynomial.{IsDescending}
use Rattle.poly_model.specs.Standard.{polynomial_of}
use Rattle.poly_model.specs.declared.limits.TheConstants.{MOST_VARIABLES}
use Rattle.poly_model.specs.Standard.{are_bounded}
use Rattle.term_store.specs.States.{list_at}
use Rattle.term_store.specs.Changes.{given_up}
use Rattle.term_store.proofs.Making as making
use Rattle.polynomials.specs.Held.{Outcome}
use Rattle.polynomials.proofs.Steps as steps
use Rattle.poly_model.proofs.Multiple.{descending-multiple, multiple-length}
use Rattle.polynomials.proofs.Outcomes as outcomes
use Rattle.poly_model.specs.Bounded.{bounded_sum, multiple}
use Rattle.polynomials.proofs.product.add_row.Goals as goal

pub sum_in-outcome-requires-clause-live_a : goal.sum_in-outcome-requires-clause-live_a
sum_in-outcome-requires-clause-live_a g c = making.makes-live _ _ _ c.in-Some.ensures.made

pub sum_in-outcome-requires-clause-live_b : goal.sum_in-outcome-requires-clause-live_b
sum_in-outcome-requires-clause-live_b g c = making.makes-other-live _ _ _ _ c.in-Some.ensures.made c.requires.live_sum

pub sum_in-outcome-requires-clause-descending_a : goal.sum_in-outcome-requires-clause-descending_a
sum_in-outcome-requires-clause-descending_a g c =
    subst (IsDescending MOST_VARIABLES) (sym c.in-Some.ensures.value) (descending-multiple MOST_VARIABLES _ _ _ c.requires.whole c.requires.some c.requires.q_descending)

pub sum_in-outcome-requires-clause-descending_b : goal.sum_in-outcome-requires-clause-descending_b
sum_in-outcome-requires-clause-descending_b g c =
    subst (λ l. IsDescending MOST_VARIABLES (polynomial_of l)) (sym (making.makes-other _ _ _ _ c.in-Some.ensures.made c.requires.live_sum)) c.requires.sum_descending

pub sum_in-outcome-requires-clause-bounded_a : goal.sum_in-outcome-requires-clause-bounded_a
sum_in-outcome-requires-clause-bounded_a g c = ap are_bounded c.in-Some.ensures.value ∙ c.in-Some.ensures.bounded

pub sum_in-outcome-requires-clause-bounded_b : goal.sum_in-outcome-requires-clause-bounded_b
sum_in-outcome-requires-clause-bounded_b g c = ap (λ l. are_bounded (polynomial_of l)) (making.makes-other _ _ _ _ c.in-Some.ensures.made c.requires.live_sum) ∙ c.requires.sum_bounded

pub sum_in-outcome-requires-clause-room : goal.sum_in-outcome-requires-clause-room
sum_in-outcome-requires-clause-room g c =
    let qs = list_at (g.S.TermStore.state c.args.s.now).lists c.args.q.0 in
    let row = list_at (g.S.TermStore.state c.multiple.new.s).lists c.in-Some.row.0 in
    let long : length row ≡ length qs = sym (steps.polynomial-length row) ∙ ap length c.in-Some.ensures.value ∙ multiple-length _ _ (polynomial_of qs) ∙ steps.polynomial-length qs in
    omega (arith, long, ap length (making.makes-other _ _ _ _ c.in-Some.ensures.made c.requires.live_sum), c.in-Some.ensures.made.spare)

pub free-requires-2 : goal.free-requires-2
free-requires-2 g c = outcomes.outcome-live _ _ _ _ _ c.sum_in-outcome.ensures (making.makes-live _ _ _ c.in-Some.ensures.made)

pub free-requires-3 : goal.free-requires-3
free-requires-3 g c = outcomes.outcome-freed-live _ (g.S.TermStore.state c.multiple.new.s) (g.S.TermStore.state c.sum_in-outcome.new.s) (g.S.TermStore.state c.free-2.new.self) _ _ _ _ c.in-Some.ensures.made c.sum_in-outcome.ensures c.free-2.ensures.lists c.requires.live_sum

pub returns : goal.returns
returns g c =
    let sum = list_at (g.S.TermStore.state c.args.s.now).lists c.args.sum.0 in
    let whole = outcomes.row-sum c.args.factor.now.exps c.args.factor.now.coef (polynomial_of (list_at (g.S.TermStore.state c.args.s.now).lists c.args.q.0)) (polynomial_of sum) c.in-Some.ensures.bounded in
    let row = list_at (g.S.TermStore.state c.multiple.new.s).lists c.in-Some.row.0 in
    let kept = making.makes-other _ _ _ _ c.in-Some.ensures.made c.requires.live_sum in
    let same : bounded_sum (polynomial_of row) (polynomial_of (list_at (g.S.TermStore.state c.multiple.new.s).lists c.args.sum.0)) ≡ bounded_sum (multiple c.args.factor.now.exps c.args.factor.now.coef (polynomial_of (list_at (g.S.TermStore.state c.args.s.now).lists c.args.q.0))) (polynomial_of sum) =
    λ i. bounded_sum (c.in-Some.ensures.value i) (polynomial_of (kept i)) in
    subst (Outcome (given_up (g.S.TermStore.state c.args.s.now) c.args.sum.0) (g.S.TermStore.state c.free-3.new.self) c.sum_in-outcome.result) (same ∙ sym whole)
    (outcomes.given-up _ (g.S.TermStore.state c.multiple.new.s) (g.S.TermStore.state c.sum_in-outcome.new.s) (g.S.TermStore.state c.free-2.new.self) (g.S.TermStore.state c.free-3.new.self) _ _ _ _ c.in-Some.ensures.made c.requires.live_sum c.sum_in-outcome.ensures c.free-2.ensures.lists c.free-2.ensures.spare c.free-3.ensures.lists c.free-3.ensures.spare)

use Rattle.poly_model.specs.Polynomial.{poly_sum}
use Rattle.poly_model.specs.declared.limits.TheConstants.{MOST_TERMS}
use Rattle.std.proofs.Common.{◌<◌, ◌≤◌, length, sym, ◌∙◌, ap, arith}
use Rattle.poly_model.specs.Standard.{polynomial_of}
use Rattle.term_store.specs.States.{list_at}
use Rattle.term_store.proofs.Making as making
use Rattle.polynomials.proofs.Steps as steps
use Rattle.polynomials.proofs.Outcomes as outcomes
use Rattle.polynomials.proofs.sums.sum_in.Goals as goal

pub len-requires : goal.len-requires
len-requires g c = making.makes-live _ _ _ c.in-Some.ensures.made

pub returns-then-len-gt-MOST_TERMS : goal.returns-then-len-gt-MOST_TERMS
returns-then-len-gt-MOST_TERMS g c =
    let long = sym (steps.polynomial-length (list_at (g.S.TermStore.state c.merge.new.s).lists c.in-Some.sum.0)) ∙ ap length c.in-Some.ensures.value in
    let p = poly_sum (polynomial_of (list_at (g.S.TermStore.state c.args.s.now).lists c.args.a.0)) (polynomial_of (list_at (g.S.TermStore.state c.args.s.now).lists c.args.b.0)) in
    let many : MOST_TERMS < length p = omega (arith, long) in
    outcomes.met _ _ _ _ (outcomes.within-terms p c.in-Some.ensures.bounded many) (making.makes-freed _ _ _ _ c.in-Some.ensures.made c.free.ensures.lists c.free.ensures.spare)

pub returns : goal.returns
returns g c =
    let long = sym (steps.polynomial-length (list_at (g.S.TermStore.state c.merge.new.s).lists c.in-Some.sum.0)) ∙ ap length c.in-Some.ensures.value in
    let p = poly_sum (polynomial_of (list_at (g.S.TermStore.state c.args.s.now).lists c.args.a.0)) (polynomial_of (list_at (g.S.TermStore.state c.args.s.now).lists c.args.b.0)) in
    let few : length p ≤ MOST_TERMS = omega (arith, long) in
    outcomes.made _ _ c.in-Some.sum p _ (outcomes.within-ok p c.in-Some.ensures.bounded few) c.in-Some.ensures.made c.in-Some.ensures.value

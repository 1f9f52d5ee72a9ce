use Rattle.std.proofs.Common.{sym, ◌∙◌, ap, arith}
use Rattle.poly_model.specs.Polynomial.{poly_sum}
use Rattle.poly_model.specs.Standard.{polynomial_of}
use Rattle.algebraize.specs.Small.{weight}
use Rattle.algebraize.proofs.Changes as changes
use Rattle.algebraize.proofs.Small as small
use Rattle.algebraize.proofs.terms.sum_onto.Goals as goal

pub add_term-requires : goal.add_term-requires
add_term-requires c =
    let whole = ap (λ l. weight (polynomial_of l)) c.in-Some.ensures.cases.0 ∙ small.weight-last c.in-Some.front.now c.in-Some.last.now in
    omega (arith, whole, c.loop-last.invariant.bound)

pub loop-last-preserved : goal.loop-last-preserved
loop-last-preserved c =
    let last = c.in-Some.last.now in
    let front = c.in-Some.front.now in
    let q = polynomial_of c.loop-last.q.items in
    let whole = ap (λ l. weight (polynomial_of l)) c.in-Some.ensures.cases.0 ∙ small.weight-last front last in
    let added = c.in_ok-add_term.ensures in
    record {
      value = ap (poly_sum (polynomial_of front)) added ∙ sym (changes.poly_sum-last front last q)
          ∙ ap (λ l. poly_sum (polynomial_of l) q) (sym c.in-Some.ensures.cases.0) ∙ c.loop-last.invariant.value;
      bound = omega (arith, whole, ap weight added, small.weight-add_entry last.exps last.coef q, c.loop-last.invariant.bound);
    }

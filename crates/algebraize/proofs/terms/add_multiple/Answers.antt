use Rattle.std.proofs.Common.{◌≡◌, ◌*◌, sym, ◌∙◌, ap, subst, arith, true}
use Rattle.std.proofs.Common.{rules}
use Rattle.std.specs.Prelude.{◌*ℤ◌, unsigned_abs}
use Rattle.std.proofs.lemmas.Int.{to_z-of_z}
use mir.Syntax.{w128}
use mir.Val.{SFits}
use Rattle.poly_model.specs.Polynomial.{add_entry, add_multiple, exponents_sum}
use Rattle.poly_model.specs.Standard.{polynomial_of}
use Rattle.poly_model.specs.declared.limits.TheConstants.{MOST_DEGREE}
use Rattle.algebraize.specs.Small.{weight, are_at_most, is_low}
use Rattle.algebraize.proofs.Changes as changes
use Rattle.algebraize.proofs.Every.{every-last}
use Rattle.algebraize.proofs.Small as small
use Rattle.algebraize.proofs.terms.add_multiple.Goals as goal

pub overflow_mul-term : goal.overflow_mul-term
overflow_mul-term c =
    let a = c.args.term.now.coef in
    let b = c.in-Some.last.now.coef in
    let whole = ap (λ l. weight (polynomial_of l)) c.in-Some.ensures.cases.0 ∙ small.weight-last c.in-Some.front.now c.in-Some.last.now in
    let fits_a : SFits w128 a = search rules in
    let fits_b : SFits w128 b = search rules in
    simp to_z-of_z (small.product-fits a b (weight (polynomial_of c.loop-last.rest.now)) (omega (arith, whole)) (omega (arith, c.loop-last.invariant.bound)))

pub exponents_sum-requires-clause-b : goal.exponents_sum-requires-clause-b
exponents_sum-requires-clause-b c =
    (every-last (are_at_most MOST_DEGREE) c.in-Some.front.now c.in-Some.last.now
    (subst (λ l. is_low MOST_DEGREE (polynomial_of l) ≡ true) c.in-Some.ensures.cases.0 c.loop-last.invariant.low)).1

pub add_term-requires : goal.add_term-requires
add_term-requires c =
    let a = c.args.term.now.coef in
    let b = c.in-Some.last.now.coef in
    let whole = ap (λ l. weight (polynomial_of l)) c.in-Some.ensures.cases.0 ∙ small.weight-last c.in-Some.front.now c.in-Some.last.now in
    let fits_a : SFits w128 a = search rules in
    let fits_b : SFits w128 b = search rules in
    let fits_p : SFits w128 (a *ℤ b) = small.product-fits a b (weight (polynomial_of c.loop-last.rest.now)) (omega (arith, whole)) (omega (arith, c.loop-last.invariant.bound)) in
    let part = small.product-bound (unsigned_abs a) (unsigned_abs a) (unsigned_abs b) (weight (polynomial_of c.loop-last.rest.now)) (omega arith) (omega (arith, whole)) in
    let size = small.abs_mul a b in
    simp to_z-of_z (omega (arith, size, part, c.loop-last.invariant.bound))

pub loop-last-preserved : goal.loop-last-preserved
loop-last-preserved c =
    let es = c.args.term.now.exps in
    let a = c.args.term.now.coef in
    let last = c.in-Some.last.now in
    let front = c.in-Some.front.now in
    let b = last.coef in
    let r = polynomial_of c.loop-last.sum.items in
    let whole = ap (λ l. weight (polynomial_of l)) c.in-Some.ensures.cases.0 ∙ small.weight-last front last in
    let fits_a : SFits w128 a = search rules in
    let fits_b : SFits w128 b = search rules in
    let fits_p : SFits w128 (a *ℤ b) = small.product-fits a b (weight (polynomial_of c.loop-last.rest.now)) (omega (arith, whole)) (omega (arith, c.loop-last.invariant.bound)) in
    let added : polynomial_of c.add_term.new.terms.items ≡ add_entry (exponents_sum es last.exps) (a *ℤ b) r =
    simp to_z-of_z at c.in_ok-add_term.ensures ∙ ap (λ fs. add_entry fs (a *ℤ b) r) c.exponents_sum.ensures
    in
    let product = ap (λ w. unsigned_abs a * w) whole ∙ small.distribute (unsigned_abs a) (weight (polynomial_of front)) (unsigned_abs b) in
    record {
      value = ap (add_multiple es a (polynomial_of front)) added ∙ sym (changes.add_multiple-last es a front last r)
          ∙ ap (λ l. add_multiple es a (polynomial_of l) r) (sym c.in-Some.ensures.cases.0) ∙ c.loop-last.invariant.value;
      bound = omega (arith, product, ap weight added, small.weight-add_entry (exponents_sum es last.exps) (a *ℤ b) r, small.abs_mul a b, c.loop-last.invariant.bound);
      low = (every-last (are_at_most MOST_DEGREE) front last (subst (λ l. is_low MOST_DEGREE (polynomial_of l) ≡ true) c.in-Some.ensures.cases.0 c.loop-last.invariant.low)).0;
    }

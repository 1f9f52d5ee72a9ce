use Rattle.std.proofs.Common.{◌≡◌, ◌*◌, sym, true, ◌∙◌, ap, subst, arith}
use Rattle.std.specs.Prelude.{unsigned_abs}
use Rattle.poly_model.specs.Standard.{polynomial_of}
use Rattle.poly_model.specs.declared.limits.TheConstants.{MOST_DEGREE}
use Rattle.algebraize.specs.Small.{weight, are_at_most, is_low}
use Rattle.algebraize.proofs.Every.{every-last}
use Rattle.algebraize.proofs.Changes as changes
use Rattle.algebraize.proofs.Small as small
use Rattle.algebraize.proofs.Changes.{multiples}
use Rattle.algebraize.proofs.terms.product.Goals as goal

pub loop-last-init : goal.loop-last-init
loop-last-init c =
    let p = polynomial_of c.args.p.now in
    let q = polynomial_of c.args.q.now in
    record {
      value = ap (λ l. multiples p q (polynomial_of l)) c.new-product.ensures.items ∙ changes.multiples-none p q;
      bound = omega (arith, ap (λ l. weight (polynomial_of l)) c.new-product.ensures.items, c.requires.size);
      low = c.requires.p;
    }

pub add_multiple-requires-clause-size : goal.add_multiple-requires-clause-size
add_multiple-requires-clause-size c =
    let last = c.in-Some.last.now in
    let front = c.in-Some.front.now in
    let q = polynomial_of c.args.q.now in
    let whole = ap (λ l. weight (polynomial_of l)) c.in-Some.ensures.cases.0 ∙ small.weight-last front last in
    let product = ap (λ w. w * weight q) whole ∙ small.distribute_back (weight (polynomial_of front)) (unsigned_abs last.coef) (weight q) in
    omega (arith, product, c.loop-last.invariant.bound)

pub add_multiple-requires-clause-low : goal.add_multiple-requires-clause-low
add_multiple-requires-clause-low c =
    (every-last (are_at_most MOST_DEGREE) c.in-Some.front.now c.in-Some.last.now
    (subst (λ l. is_low MOST_DEGREE (polynomial_of l) ≡ true) c.in-Some.ensures.cases.0 c.loop-last.invariant.low)).1

pub loop-last-preserved : goal.loop-last-preserved
loop-last-preserved c =
    let last = c.in-Some.last.now in
    let front = c.in-Some.front.now in
    let q = polynomial_of c.args.q.now in
    let r = polynomial_of c.loop-last.product.items in
    let whole = ap (λ l. weight (polynomial_of l)) c.in-Some.ensures.cases.0 ∙ small.weight-last front last in
    let product = ap (λ w. w * weight q) whole ∙ small.distribute_back (weight (polynomial_of front)) (unsigned_abs last.coef) (weight q) in
    let added = c.in_ok-add_multiple.ensures in
    record {
      value = ap (multiples (polynomial_of front) q) added ∙ sym (changes.multiples-last front last q r)
          ∙ ap (λ l. multiples (polynomial_of l) q r) (sym c.in-Some.ensures.cases.0) ∙ c.loop-last.invariant.value;
      bound = omega (arith, product, ap weight added, small.weight-add_multiple last.exps last.coef q r, c.loop-last.invariant.bound);
      low = (every-last (are_at_most MOST_DEGREE) front last (subst (λ l. is_low MOST_DEGREE (polynomial_of l) ≡ true) c.in-Some.ensures.cases.0 c.loop-last.invariant.low)).0;
    }

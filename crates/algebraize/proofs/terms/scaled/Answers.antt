use Rattle.std.proofs.Common.{◌++◌, rules, sym, ◌∙◌, ap, arith, append_assoc}
use Rattle.std.specs.Prelude.{◌*ℤ◌, unsigned_abs}
use Rattle.std.proofs.lemmas.Int.{to_z-of_z}
use mir.Syntax.{w128}
use mir.Val.{SFits}
use Rattle.std.proofs.lemmas.List.{map_push}
use Rattle.poly_model.specs.Polynomial.{poly_scaled}
use Rattle.poly_model.specs.Standard.{polynomial_of, entry_of}
use Rattle.algebraize.specs.Small.{weight}
use Rattle.algebraize.proofs.Small as small
use Rattle.algebraize.proofs.terms.scaled.Goals as goal

pub overflow_mul-factor : goal.overflow_mul-factor
overflow_mul-factor c =
    let a = c.args.factor in
    let b = c.in-Some.term.now.coef in
    let whole = ap (λ l. weight (polynomial_of l)) c.in-Some.ensures.cases.0 in
    let fits_a : SFits w128 a = search rules in
    let fits_b : SFits w128 b = search rules in
    let bound = simp to_z-of_z at c.loop-term.invariant.bound in
    simp to_z-of_z (small.product-fits a b (weight (polynomial_of c.loop-term.rest.now)) (omega (arith, whole)) bound)

pub loop-term-preserved : goal.loop-term-preserved
loop-term-preserved c =
    let a = c.args.factor in
    let b = c.in-Some.term.now.coef in
    let whole = ap (λ l. weight (polynomial_of l)) c.in-Some.ensures.cases.0 in
    let fits_a : SFits w128 a = search rules in
    let fits_b : SFits w128 b = search rules in
    let bound = simp to_z-of_z at c.loop-term.invariant.bound in
    let fits_p : SFits w128 (a *ℤ b) = small.product-fits a b (weight (polynomial_of c.loop-term.rest.now)) (omega (arith, whole)) bound in
    let front = polynomial_of c.loop-term.multiples.items in
    let rest = poly_scaled a (polynomial_of c.in-Some.tail.now) in
    let pushed = simp to_z-of_z at (ap polynomial_of c.in_ok-push.ensures.items ∙ map_push entry_of c.loop-term.multiples.items _) in
    let value = simp to_z-of_z at c.loop-term.invariant.value in
    let part = small.product-bound (unsigned_abs a) (unsigned_abs a) (weight (polynomial_of c.in-Some.tail.now)) (weight (polynomial_of c.loop-term.rest.now)) (omega arith) (omega (arith, whole)) in
    record {
      value = simp to_z-of_z
          (ap (λ l. l ++ rest) pushed ∙ append_assoc front _ rest
          ∙ ap (λ l. front ++ poly_scaled a (polynomial_of l)) (sym c.in-Some.ensures.cases.0) ∙ value);
      bound = simp to_z-of_z (omega (arith, part, bound));
    }

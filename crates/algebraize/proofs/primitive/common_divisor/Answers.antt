use Rattle.std.proofs.Common.{rules, ◌≡◌, sym, ◌∙◌, ap}
use Rattle.std.specs.Prelude.{unsigned_abs}
use Rattle.std.proofs.lemmas.Nat.Gcd.{same_from_IsGcd}
use Rattle.std.proofs.lemmas.Int.{to_z-of_z}
use mir.Syntax.{w128}
use mir.Val.{SFits}
use Rattle.poly_model.specs.Content.{gcd}
use Rattle.poly_model.specs.Standard.{polynomial_of}
use Rattle.poly_model.proofs.Contents.{gcd-is}
use Rattle.algebraize.proofs.Changes.{gcd_with, gcd_with-none, gcd_with-last}
use Rattle.algebraize.proofs.primitive.common_divisor.Goals as goal

pub loop-last-init : goal.loop-last-init
loop-last-init c = gcd_with-none (polynomial_of c.args.terms.now)

pub loop-last-preserved : goal.loop-last-preserved
loop-last-preserved c =
    let last = c.in-Some.last.now in
    let front = c.in-Some.front.now in
    let fits : SFits w128 last.coef = search rules in
    let size : c.unsigned_abs.result ≡ unsigned_abs last.coef = simp to_z-of_z at c.unsigned_abs.ensures.value in
    let one : c.gcd-divisor.result ≡ gcd (unsigned_abs last.coef) c.loop-last.divisor =
    same_from_IsGcd c.unsigned_abs.result c.loop-last.divisor _ _ c.gcd-divisor.ensures (gcd-is c.unsigned_abs.result c.loop-last.divisor)
    ∙ ap (λ a. gcd a c.loop-last.divisor) size
    in
    ap (gcd_with (polynomial_of front)) one ∙ sym (gcd_with-last front last c.loop-last.divisor)
    ∙ ap (λ l. gcd_with (polynomial_of l) c.loop-last.divisor) (sym c.in-Some.ensures.cases.0) ∙ c.loop-last.invariant

use Rattle.std.proofs.Common.{rules, ◌≡◌, ◌+◌, ◌-◌, drop, sym, ◌∙◌, ap, subst, arith}
use Rattle.std.specs.Prelude.{unsigned_abs}
use Rattle.std.specs.Int.{IsGcd}
use Rattle.std.proofs.lemmas.Int.{to_z-of_z}
use mir.Syntax.{w128}
use mir.Val.{SFits}
use Rattle.poly_model.specs.Content.{coefficients_gcd}
use Rattle.poly_model.specs.Standard.{polynomial_of}
use Rattle.term_store.specs.States.{list_at}
use Rattle.polynomials.proofs.Reading as reading
use Rattle.polynomials.proofs.contents.common_divisor.Goals as goal

pub loop-i-preserved : goal.loop-i-preserved
loop-i-preserved g c =
    let xs = list_at (g.S.TermStore.state c.args.s.now).lists c.args.q.0 in
    let i = c.loop-i.i - 1 in
    let t = c.get.result in
    let fits : SFits w128 t.coef = search rules in
    let size : c.unsigned_abs.result ≡ unsigned_abs t.coef = simp to_z-of_z at c.unsigned_abs.ensures.value in
    let step : c.loop-i.i ≡ i + 1 = omega arith in
    let rest : c.loop-i.divisor ≡ coefficients_gcd (polynomial_of (drop (i + 1) xs)) = c.loop-i.invariant.value ∙ ap (λ k. coefficients_gcd (polynomial_of (drop k xs))) step in
    record {
      within = omega (arith, c.loop-i.invariant.within);
      value = reading.divisor-next xs i t c.gcd-divisor.result (omega arith) c.get.ensures
          (subst (λ n. IsGcd n (coefficients_gcd (polynomial_of (drop (i + 1) xs))) c.gcd-divisor.result) size (subst (λ n. IsGcd c.unsigned_abs.result n c.gcd-divisor.result) rest c.gcd-divisor.ensures));
    }

pub returns-else-divisor-ne1 : goal.returns-else-divisor-ne1
returns-else-divisor-ne1 g c =
    let xs = list_at (g.S.TermStore.state c.args.s.now).lists c.args.q.0 in
    let one : c.loop-i.divisor ≡ 1 = omega arith in
    one ∙ reading.divisor-one xs c.loop-i.i (sym c.loop-i.invariant.value ∙ one)

use Rattle.std.proofs.Common.{◌≡◌, ◌<◌, ℕ, zero, suc, rules, ◌∙◌, ap, arith}
use Prim.Native.Nat.{◌∣◌}
use Rattle.std.specs.Prelude.{unsigned_abs}
use Rattle.std.proofs.lemmas.Nat.Gcd.{same_from_IsGcd, mod-eq-zero_of_dvd}
use Rattle.std.proofs.lemmas.Int.{to_z-of_z}
use mir.Syntax.{w64, w128}
use mir.Val.{SFits}
use Rattle.poly_model.specs.Content.{gcd}
use Rattle.poly_model.proofs.Contents.{gcd-is}
use Rattle.algebraize.specs.declared.ratio.TheConstants.{MILLIONTHS}
use Rattle.algebraize.proofs.ratio.common_factor.Goals as goal

pub returns-clause-value : goal.returns-clause-value
returns-clause-value c =
    let fits_w : SFits w64 c.millionths.result = search rules in
    let from : c.from.result ≡ c.millionths.result = c.from.ensures ∙ to_z-of_z w64 c.millionths.result fits_w in
    let fits : SFits w128 c.from.result = search rules in
    let same : c.unsigned_abs.result ≡ unsigned_abs c.args.number =
    simp to_z-of_z at c.unsigned_abs.ensures.value ∙ ap unsigned_abs (from ∙ c.millionths.ensures.value)
    in
    same_from_IsGcd MILLIONTHS c.unsigned_abs.result _ _ c.gcd.ensures (gcd-is MILLIONTHS c.unsigned_abs.result) ∙ ap (gcd MILLIONTHS) same

positive : (a g : ℕ) → 0 < a → g ∣ a → 0 < g
positive a zero lt d = absurd (omega (arith, mod-eq-zero_of_dvd 0 d))
positive a (suc g) lt d = omega arith

pub returns-clause-positive : goal.returns-clause-positive
returns-clause-positive c = positive MILLIONTHS c.gcd.result (omega arith) c.gcd.ensures.0

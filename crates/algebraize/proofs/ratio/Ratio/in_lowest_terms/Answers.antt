use Rattle.std.proofs.Common.{◌≡◌, rules, ◌∙◌, ap}
use Rattle.std.specs.Prelude.{pos}
use Rattle.std.proofs.lemmas.Int.{to_z-of_z}
use mir.Syntax.{w64, w128}
use mir.Val.{SFits}
use Rattle.poly_model.specs.Content.{quotient_of}
use Rattle.algebraize.specs.declared.ratio.TheConstants.{MILLIONTHS}
use Rattle.algebraize.proofs.ratio.Ratio.in_lowest_terms.Goals as goal

pub returns-clause-numerator : goal.returns-clause-numerator
returns-clause-numerator c =
    let fits_w : SFits w64 c.millionths.result = search rules in
    let from : c.from.result ≡ c.millionths.result = c.from.ensures ∙ to_z-of_z w64 c.millionths.result fits_w in
    let fits : SFits w128 c.from.result = search rules in
    let fits_d : SFits w128 c.divided.result = search rules in
    simp to_z-of_z (simp to_z-of_z at c.divided.ensures ∙ (λ i. quotient_of ((from ∙ c.millionths.ensures.value) i) (c.common_factor-factor.ensures.value i)))

pub returns-clause-denominator : goal.returns-clause-denominator
returns-clause-denominator c =
    let fits_d : SFits w128 c.divided-2.result = search rules in
    let is = c.divided-2.ensures ∙ ap (quotient_of (pos MILLIONTHS)) c.common_factor-factor.ensures.value in
    simp to_z-of_z is

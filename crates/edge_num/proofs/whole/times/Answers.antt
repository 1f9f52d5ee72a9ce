use Rattle.std.proofs.Common.{◌*ℤ◌, arith}
use Rattle.std.proofs.lemmas.Int.{to_z-of_z, fits_signed_mul}
use Rattle.edge_num.proofs.Sizes.{size-within}
use mir.Syntax.{w128}
use mir.Val.{SFits}
use Rattle.edge_num.proofs.whole.times.Goals as goal

pub overflow_mul-result : goal.overflow_mul-result
overflow_mul-result g c =
    let fits_a : SFits w128 c.args.a = c.ranges.a in
    let fits_b : SFits w128 c.args.b = c.ranges.b in
    let f = fits_signed_mul w128 c.args.a c.args.b _ _ c.requires.first c.requires.second (omega (arith, c.requires.fits)) in
    simp to_z-of_z f

pub returns-clause-value : goal.returns-clause-value
returns-clause-value g c =
    let fits_a : SFits w128 c.args.a = c.ranges.a in
    let fits_b : SFits w128 c.args.b = c.ranges.b in
    let f : SFits w128 (c.args.a *ℤ c.args.b) = fits_signed_mul w128 c.args.a c.args.b _ _ c.requires.first c.requires.second (omega (arith, c.requires.fits)) in
    simp to_z-of_z

pub returns-clause-size : goal.returns-clause-size
returns-clause-size g c =
    let fits_a : SFits w128 c.args.a = c.ranges.a in
    let fits_b : SFits w128 c.args.b = c.ranges.b in
    let f : SFits w128 (c.args.a *ℤ c.args.b) = fits_signed_mul w128 c.args.a c.args.b _ _ c.requires.first c.requires.second (omega (arith, c.requires.fits)) in
    simp to_z-of_z (size-within c.args.a c.args.b _ _ c.requires.first c.requires.second)

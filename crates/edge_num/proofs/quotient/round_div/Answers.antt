use Rattle.std.proofs.Common.{arith, ◌≡◌, sym, subst}
use Rattle.std.specs.Prelude.{pos, ◌+ℤ◌, ◌*ℤ◌}
use Rattle.std.proofs.lemmas.Int.{ints, to_z-of_z}
use mir.Syntax.{w128}
use mir.Val.{SFits}
use Rattle.edge_num.specs.Numbers.{nearest, IsNearest}
use Rattle.edge_num.proofs.Nearest.{nearest_is_near}
use Rattle.edge_num.proofs.quotient.round_div.Goals as goal

pub returns : goal.returns
returns c =
    let n = c.args.n in
    let d = c.args.d in
    let fits_n : SFits w128 n = c.ranges.n in
    let fits_d : SFits w128 d = c.ranges.d in
    let fits_2n : SFits w128 (pos 2 *ℤ n) = omega (arith, ints) in
    let fits_2d : SFits w128 (pos 2 *ℤ d) = omega (arith, ints) in
    let fits_t : SFits w128 (pos 2 *ℤ n +ℤ d) = omega (arith, ints) in
    let fits_q : SFits w128 c.div_euclid.result = record { sfits = c.div_euclid.type_inv } in
    let value : c.div_euclid.result ≡ nearest n d = simp to_z-of_z at c.div_euclid.ensures in
    let law : IsNearest n d c.div_euclid.result = subst (λ q. IsNearest n d q) (sym value) (nearest_is_near n d c.requires.divisor_positive) in
    simp to_z-of_z (record { value = value; law = law })

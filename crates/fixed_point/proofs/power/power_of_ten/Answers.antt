use Rattle.std.proofs.Common.{◌≤◌, ◌^◌, arith}
use Rattle.std.proofs.Math.Nat.{one-le-pow, pow-le-pow_right}
use Rattle.fixed_point.proofs.power.power_of_ten.Goals as goal

pub returns-clause-bounds : goal.returns-clause-bounds
returns-clause-bounds c =
    let greatest : 10 ^ c.args.exponent ≤ 10 ^ 6 = pow-le-pow_right (omega arith) c.requires in
    let least : 1 ≤ 10 ^ c.args.exponent = one-le-pow c.args.exponent 10 (omega arith) in
    (omega (arith, least), omega (arith, greatest))

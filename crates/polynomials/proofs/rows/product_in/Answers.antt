use Rattle.std.proofs.Common.{◌≤◌, ◌^◌, subst, arith, lit<}
use Rattle.std.specs.Prelude.{unsigned_abs, ◌*ℤ◌}
use Rattle.std.proofs.lemmas.Int.{ints, to_z-of_z, fits_signed_mul, unsigned_abs-mul}
use Rattle.std.proofs.Math.Nat.{mul-le-mul}
use mir.Syntax.{w128}
use mir.Val.{SFits}
use Rattle.poly_model.specs.declared.limits.TheConstants.{MOST_SIZE}
use Rattle.polynomials.proofs.rows.product_in.Goals as goal

pub overflow_mul-result : goal.overflow_mul-result
overflow_mul-result c =
    let a : SFits w128 c.args.a = omega (arith, ints, c.requires.a) in
    let b : SFits w128 c.args.b = omega (arith, ints, c.requires.b) in
    let first : unsigned_abs c.args.a ≤ 2 ^ 63 = subst (λ z. unsigned_abs z ≤ 2 ^ 63) (to_z-of_z w128 c.args.a a) (c.is_word.ensures c.if-is_word.true) in
    let second : unsigned_abs c.args.b ≤ 2 ^ 63 = subst (λ z. unsigned_abs z ≤ 2 ^ 63) (to_z-of_z w128 c.args.b b) (c.is_word-then-is_word.ensures c.if-is_word-2.true) in
    simp to_z-of_z (fits_signed_mul w128 c.args.a c.args.b (2 ^ 63) (2 ^ 63) first second (lit< tt))

pub returns-then-is_word-2 : goal.returns-then-is_word-2
returns-then-is_word-2 c =
    let a : SFits w128 c.args.a = omega (arith, ints, c.requires.a) in
    let b : SFits w128 c.args.b = omega (arith, ints, c.requires.b) in
    let first : unsigned_abs c.args.a ≤ 2 ^ 63 = subst (λ z. unsigned_abs z ≤ 2 ^ 63) (to_z-of_z w128 c.args.a a) (c.is_word.ensures c.if-is_word.true) in
    let second : unsigned_abs c.args.b ≤ 2 ^ 63 = subst (λ z. unsigned_abs z ≤ 2 ^ 63) (to_z-of_z w128 c.args.b b) (c.is_word-then-is_word.ensures c.if-is_word-2.true) in
    let fits : SFits w128 (c.args.a *ℤ c.args.b) = fits_signed_mul w128 c.args.a c.args.b (2 ^ 63) (2 ^ 63) first second (lit< tt) in
    let size : unsigned_abs (c.args.a *ℤ c.args.b) ≤ MOST_SIZE =
    let both = mul-le-mul first second in
    omega (arith, unsigned_abs-mul c.args.a c.args.b, both) in
    (size, simp to_z-of_z)

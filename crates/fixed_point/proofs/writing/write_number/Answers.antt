use Rattle.std.proofs.Common.{codes, arith, pos, ◌≤ℤ◌, ◌<ℤ◌}
use Rattle.std.proofs.lemmas.Int.{ints, to_z-of_z}
use mir.Syntax.{w64}
use mir.Val.{SFits}
use Rattle.desk_io.proofs.Writing.{first_failed, last_writes}
use Rattle.fixed_point.specs.Text.{size_text}
use Rattle.fixed_point.proofs.Places.{text-unsigned, text-negative}
use Rattle.fixed_point.proofs.writing.write_number.Goals as goal

pub returns-then-units-ge0-clause-bytes : goal.returns-then-units-ge0-clause-bytes
returns-then-units-ge0-clause-bytes g c =
    let fits : SFits w64 c.args.units = c.ranges.units in
    let sign : pos 0 ≤ℤ c.args.units = omega (arith, ints) in
    let size = simp to_z-of_z at c.unsigned_abs-size.ensures.value in
    rw (text-unsigned c.args.places c.unsigned_abs-size.result c.args.units sign size) c.write_size.ensures.bytes

pub returns-in_err-push-clause-bytes : goal.returns-in_err-push-clause-bytes
returns-in_err-push-clause-bytes g c =
    let fits : SFits w64 c.args.units = c.ranges.units in
    let sign : c.args.units <ℤ pos 0 = omega (arith, ints) in
    let size = simp to_z-of_z at c.unsigned_abs-size.ensures.value in
    first_failed _ _ _ _ _ (codes "-") (size_text c.args.places c.unsigned_abs-size.result) _ c.from_residual.ensures.0 c.in_err-push.ensures.bytes
    (text-negative _ _ _ sign size)

pub returns-clause-bytes : goal.returns-clause-bytes
returns-clause-bytes g c =
    let fits : SFits w64 c.args.units = c.ranges.units in
    let sign : c.args.units <ℤ pos 0 = omega (arith, ints) in
    let size = simp to_z-of_z at c.unsigned_abs-size.ensures.value in
    last_writes c.write_size-2.result _ _ _ _ _ _ (codes "-") (size_text c.args.places c.unsigned_abs-size.result) _
    c.in_ok-push.ensures.bytes c.write_size-2.ensures.bytes (text-negative _ _ _ sign size)

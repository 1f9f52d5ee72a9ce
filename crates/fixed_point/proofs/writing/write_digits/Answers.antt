use Rattle.std.proofs.Common.{arith}
use Rattle.desk_io.proofs.Going.{wrote, stopped, ended}
use Rattle.fixed_point.proofs.Places.{digit-small, rest-small, first-decimal, no-decimals}
use Rattle.fixed_point.proofs.writing.write_digits.Goals as goal

pub overflow_cast-left : goal.overflow_cast-left
overflow_cast-left g c =
    let small = digit-small _ _ _ c.loop-left-test.true c.loop-left.invariant.below_one c.power_of_ten-unit.ensures.value in
    omega (arith, small)

pub overflow_add-left : goal.overflow_add-left
overflow_add-left g c =
    let small = digit-small _ _ _ c.loop-left-test.true c.loop-left.invariant.below_one c.power_of_ten-unit.ensures.value in
    omega (arith, small)

pub returns-in_err-push-clause-bytes : goal.returns-in_err-push-clause-bytes
returns-in_err-push-clause-bytes g c =
    let first = first-decimal _ _ _ c.loop-left-test.true c.loop-left.invariant.below_one c.power_of_ten-unit.ensures.value in
    stopped _ _ _ _ _ _ _ _ _ _ _ c.from_residual.ensures.0 c.loop-left.invariant.going first c.in_err-push.ensures.bytes

pub loop-left-preserved : goal.loop-left-preserved
loop-left-preserved g c =
    let first = first-decimal _ _ _ c.loop-left-test.true c.loop-left.invariant.below_one c.power_of_ten-unit.ensures.value in
    record {
      places = omega arith;
      below_one = rest-small _ _ _ c.power_of_ten-unit.ensures.value;
      later = omega (arith, c.in_ok-push.ensures.cause.later);
      going = wrote _ _ _ _ _ _ _ _ _ _ c.loop-left.invariant.going first c.in_ok-push.ensures.bytes;
    }

pub returns-clause-bytes : goal.returns-clause-bytes
returns-clause-bytes g c =
    ended _ _ _ _ _ _ c.loop-left.invariant.going (no-decimals _ _ c.loop-left-test.false)

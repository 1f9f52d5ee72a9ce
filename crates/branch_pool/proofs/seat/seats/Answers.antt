use Rattle.std.proofs.Common.{length, ap, arith, ◌∙◌}
use Rattle.branch_pool.proofs.Rows.{lanes_many}
use Rattle.branch_pool.proofs.seat.seats.Goals as goal

pub loop-lane-init : goal.loop-lane-init
loop-lane-init g c =
    let are = c.in_ok-lane-items.ensures in
    let many = ap length are.are ∙ lanes_many are.ends 0 are.ends in
    omega (arith, many, are.many, ap length c.into_iter-lane-iterator.ensures.into_iter_gives.0, c.new-seats.ensures.len)

pub loop-lane-preserved : goal.loop-lane-preserved
loop-lane-preserved g c =
    omega (arith, c.loop-lane.invariant, ap length c.in-Some.ensures.steps.0, c.in_ok-push.ensures.len)

pub returns : goal.returns
returns g c = omega (arith, c.loop-lane.invariant, c.in-None.ensures.steps.0, c.loop-lane.lane-iterator.rest.ok)

use Rattle.sample_point.proofs.Tried.{scaled-bounded}
use Rattle.sample_point.proofs.tries.all_scaled.Goals as goal

pub returns-clause-size : goal.returns-clause-size
returns-clause-size c =
    scaled-bounded _ c.loop-rest.rest.now c.loop-rest.scaled.items c.args.numbers.now c.in_default.len_below c.loop-rest.invariant.value

use Rattle.std.proofs.Common.{length, ap, arith}
use Rattle.branch_pool.specs.Views.{View}
use Rattle.branch_pool.proofs.lane.Lane.steal_any.Goals as goal

pub steal_among-requires-in-None-clause-there : goal.steal_among-requires-in-None-clause-there
steal_among-requires-in-None-clause-there g c =
    omega (arith, c.place-place.ensures.within, ap (λ (v : View g.row.I.Denot). length v.doors) c.in-None.ensures)

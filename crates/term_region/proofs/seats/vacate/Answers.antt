use Rattle.std.proofs.Common.{arith, refl, false}
use Rattle.term_region.specs.declared.run.Run.{Run}
use Rattle.term_region.specs.Pool.{run_at, units_of}
use Rattle.term_region.proofs.Sums.{sum-set, units-live, units-dead, live-counts, live-below}
use Rattle.term_region.proofs.Orders as orders
use Rattle.term_region.proofs.seats.vacate.Goals as goal

pub unreachable-requires : goal.unreachable-requires
unreachable-requires c =
    absurd (omega (arith, c.requires.vacant.count, live-counts c.args.runs.now.items c.args.slot c.requires.live, c.in-Err.ensures.full, c.requires.room))

pub returns-clause-units : goal.returns-clause-units
returns-clause-units c =
    let rs = c.args.runs.now.items in
    let p = c.index_mut.result.now in
    let q : Run = record { live = false; start = p.start; len = p.len; rank = p.rank } in
    omega (arith, sum-set units_of rs c.args.slot q (live-below rs c.args.slot c.requires.live), units-live (run_at rs c.args.slot) c.requires.live, units-dead q refl)

pub returns-clause-vacant : goal.returns-clause-vacant
returns-clause-vacant c =
    orders.vacant-back c.args.runs.now.items c.args.vacant.now.items c.push.new.self.items record { live = false; start = c.index_mut.result.now.start; len = c.index_mut.result.now.len; rank = c.index_mut.result.now.rank }
    c.args.slot c.requires.vacant c.requires.live refl c.in-Ok.ensures.items

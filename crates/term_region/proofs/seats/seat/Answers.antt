use Rattle.std.proofs.Common.{ap, arith}
use Rattle.std.proofs.Common.{length, length-append, ◌∷◌, []}
use Rattle.term_region.specs.Pool.{run_at, sum_of, units_of}
use Rattle.term_region.proofs.Sums.{sum-set, sum-push, units-live, units-dead, count-units}
use Rattle.term_region.proofs.Orders as orders
use Rattle.term_region.proofs.seats.seat.Goals as goal

pub unreachable-requires : goal.unreachable-requires
unreachable-requires c =
    absurd (omega (arith, c.requires.vacant.count, count-units c.args.runs.now.items, c.requires.room, c.in-Err.ensures.full, c.in-None.ensures.cases.0))

pub returns-in-Some-clause-vacant : goal.returns-in-Some-clause-vacant
returns-in-Some-clause-vacant c =
    orders.vacant-last c.args.runs.now.items c.args.vacant.now.items c.pop.new.self.items c.args.run c.in-Some.slot c.requires.vacant c.in-Some.ensures.items c.requires.live

pub returns-in-Some-clause-units : goal.returns-in-Some-clause-units
returns-in-Some-clause-units c =
    let rs = c.args.runs.now.items in
    let m = c.in-Some.slot in
    omega (
      arith,
      sum-set units_of rs m c.args.run (orders.vacant-last-below rs c.args.vacant.now.items c.pop.new.self.items m c.requires.vacant c.in-Some.ensures.items),
      units-live c.args.run c.requires.live,
      units-dead (run_at rs m) (orders.vacant-last-dead rs c.args.vacant.now.items c.pop.new.self.items m c.requires.vacant c.in-Some.ensures.items),
    )

pub returns-in-Ok-clause-vacant : goal.returns-in-Ok-clause-vacant
returns-in-Ok-clause-vacant c =
    orders.vacant-more c.args.runs.now.items c.push.new.self.items c.args.vacant.now.items c.pop.new.self.items c.args.run c.requires.vacant (omega (arith, c.in-None.ensures.cases.0)) (omega (arith, c.in-None.ensures.cases.1)) c.requires.live c.in-Ok.ensures.items

pub returns-in-Ok-clause-units : goal.returns-in-Ok-clause-units
returns-in-Ok-clause-units c = omega (arith, ap (sum_of units_of) c.in-Ok.ensures.items, sum-push units_of c.args.runs.now.items c.args.run, units-live c.args.run c.requires.live)

pub returns-in-Ok-clause-fits : goal.returns-in-Ok-clause-fits
returns-in-Ok-clause-fits c = λ n h k.
    omega (arith, ap (λ l. length l) c.in-Ok.ensures.items, length-append c.args.runs.now.items (c.args.run ∷ []), c.requires.vacant.count, count-units c.args.runs.now.items, c.in-None.ensures.cases.0)

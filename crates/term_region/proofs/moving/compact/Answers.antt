use Rattle.std.proofs.Common.{length, arith, refl}
use Rattle.term_region.proofs.Sums.{sum-before}
use Rattle.term_region.proofs.Settling as settling
use Rattle.term_region.proofs.moving.compact.Goals as goal

pub loop-i-init : goal.loop-i-init
loop-i-init c = record {
  settled = settling.settled-none c.args.runs.now.items c.args.order.now.items (length c.args.terms.now.items) c.requires.ordered;
  stays = settling.stays-same c.args.terms.now.items c.args.runs.now.items;
  top = λ k l e. record { waits = λ le. e; kept_last = λ lt. absurd (omega arith); ends_there = λ lt. absurd (omega arith); done = λ lt. absurd (omega arith) };
  terms = refl;
  order = refl;
  within = omega arith;
  terms_room = refl;
  runs_room = refl;
  order_room = refl;
}

pub returns-clause-stays : goal.returns-clause-stays
returns-clause-stays c =
    let l = c.loop-i in
    let s = l.invariant.settled in
    settling.stays-then _ _ _ _ _ _ l.invariant.stays
    (settling.stays-cut l.terms.items c.truncate.new.self.items l.runs.items l.edge.end s.within
    (λ k live. s.ended k live (omega (arith, s.ordered.ranked k live, c.loop-i-test.false))) c.truncate.ensures.items)

pub returns-clause-short : goal.returns-clause-short
returns-clause-short c =
    let l = c.loop-i in
    let s = l.invariant.settled in
    omega (arith, s.sum, sum-before l.i l.runs.items, l.invariant.stays.same_units, c.truncate.ensures.len, c.truncate-2.ensures.len)

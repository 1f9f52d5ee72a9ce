use Rattle.std.proofs.Common.{length, [], ◌∙◌, ap, arith}
use Rattle.log_checker.proofs.Dues as dues
use Rattle.log_checker.proofs.due.first_left.Goals as goal

pub loop-at-preserved : goal.loop-at-preserved
loop-at-preserved c E =
    let e = c.term_count.ensures.count ∙ ap length (dues.there c.args.cons.now c.loop-at.at _ [] _ c.loop-at-test.true c.index-cons-at.is) in
    let none = c.if-term_count-gt0.false in
    c.loop-at.invariant E ∙ dues.skip E c.args.cons.now c.loop-at.at c.loop-at-test.true (omega (arith, e, none))

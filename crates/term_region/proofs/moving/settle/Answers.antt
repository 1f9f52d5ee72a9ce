use Rattle.std.proofs.Common.{arith}
use Rattle.std.proofs.lemmas.Bool.{not-true, not-false}
use Rattle.term_region.proofs.Sums.{both}
use Rattle.term_region.proofs.Orders.{void-top}
use Rattle.term_region.proofs.Settling as settling
use Rattle.term_region.proofs.moving.settle.Goals as goal

pub returns-then-not-run-clause-settled : goal.returns-then-not-run-clause-settled
returns-then-not-run-clause-settled c =
    let s = c.requires.settled in
    settling.settled-void c.args.runs.now.items c.args.order.now.items _ c.args.i _ _ s
    (void-top c.args.runs.now.items c.args.order.now.items _ c.args.i c.index-slot.result.now c.index-run.result.now s.ordered c.requires.below c.index-slot.ensures c.index-run.ensures
    (λ l e. absurd (both c.index-run.result.now.live l (not-true c.index-run.result.now.live c.if-not-run.true))))

pub returns-then-run-i-clause-settled : goal.returns-then-run-i-clause-settled
returns-then-run-i-clause-settled c =
    let s = c.requires.settled in
    settling.settled-void c.args.runs.now.items c.args.order.now.items _ c.args.i _ _ s
    (void-top c.args.runs.now.items c.args.order.now.items _ c.args.i c.index-slot.result.now c.index-run.result.now s.ordered c.requires.below c.index-slot.ensures c.index-run.ensures
    (λ l e. absurd (omega (arith, e))))

pub overflow_add-result-2 : goal.overflow_add-result-2
overflow_add-result-2 c =
    omega (arith, settling.done-inside c.args.runs.now.items c.args.order.now.items _ c.args.i _ _ c.index-slot.result.now c.index-run.result.now c.requires.settled c.requires.below c.index-slot.ensures c.index-run.ensures (not-false c.index-run.result.now.live c.if-not-run.false) c.if-run-i.false)

pub returns-clause-settled : goal.returns-clause-settled
returns-clause-settled c =
    settling.done-moved c.args.runs.now.items c.args.order.now.items _ _ c.args.i _ _ c.index-slot.result.now c.index-run.result.now c.requires.settled c.requires.below c.index-slot.ensures c.index-run.ensures (not-false c.index-run.result.now.live c.if-not-run.false) c.if-run-i.false
    c.move_down.ensures.terms

pub returns-clause-stays : goal.returns-clause-stays
returns-clause-stays c =
    settling.done-stays c.args.terms.now.items c.move_down.new.terms.items c.args.runs.now.items c.args.order.now.items c.args.i _ _ c.index-slot.result.now c.index-run.result.now c.requires.settled c.requires.below c.index-slot.ensures c.index-run.ensures (not-false c.index-run.result.now.live c.if-not-run.false) c.if-run-i.false
    c.move_down.ensures.terms c.move_down.ensures.copied c.move_down.ensures.below c.move_down.ensures.from

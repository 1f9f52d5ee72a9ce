use Rattle.std.proofs.Common.{◌≡◌, ◌<◌, ◌+◌, sym, ◌∙◌, ap, arith, get_or, set, add-one, length}
use Rattle.poly_model.proofs.Adding as changes
use Rattle.poly_model.proofs.Adding.{added_first}
use Rattle.poly_model.proofs.term.exponents_sum.Goals as goal

pub overflow_add-sum : goal.overflow_add-sum
overflow_add-sum c =
    let i = c.loop-i.i in
    let same : length c.args.a.now ≡ length c.args.b.now = omega arith in
    let at : get_or c.loop-i.sum i 0 ≡ get_or c.args.a.now i 0 = ap (λ l. get_or l i 0) c.loop-i.invariant ∙ changes.added_first-at i c.args.a.now c.args.b.now same in
    let low_a = changes.low-at c.args.a.now i c.requires.a in
    let low_b = changes.low-at c.args.b.now i c.requires.b in
    omega (arith, at, low_a, low_b)

pub loop-i-preserved : goal.loop-i-preserved
loop-i-preserved c =
    let i = c.loop-i.i in
    let b = c.args.b.now in
    let same : length c.args.a.now ≡ length b = omega arith in
    let below : i < length c.args.a.now = omega arith in
    (λ j. set (c.loop-i.invariant j) i (get_or (c.loop-i.invariant j) i 0 + get_or b i 0)) ∙ changes.added_first-more i c.args.a.now b below same
    ∙ ap (λ k. added_first k c.args.a.now b) (sym (add-one i))

pub returns : goal.returns
returns c = c.loop-i.invariant ∙ changes.added_first-all c.loop-i.i c.args.a.now c.args.b.now (omega arith) (omega arith)

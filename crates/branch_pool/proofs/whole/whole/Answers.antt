use Rattle.std.proofs.Common.{◌≡◌, ◌<◌, true, length}
use Rattle.proof_steps.specs.Paths.{same_path}
use Rattle.branch_core.specs.Trees.{preorder}
use Rattle.branch_pool.proofs.Stacks.{one_met}
use Rattle.branch_pool.proofs.whole.whole.Goals as goal

pub loop-done-preserved : goal.loop-done-preserved
loop-done-preserved g c =
    let t = g.W.Work.tree g.W.Work.root in
    let d = c.done-item.result in
    let ds = c.args.pieces.now.items in
    let same : same_path d.0 c.in-Some.path ≡ true = cc (c.is_at.ensures, c.if-not-is_at.false) in
    let within : c.loop-done.done-index < length ds = rw (← c.deref-done-items.ensures.value) c.loop-done-test.true in
    one_met t ds c.loop-done.done-index d c.loop-done.stack.items c.pop.new.self.items c.expect.new.stack.items c.in-Some.path c.forks-parted.result (preorder t)
    within (rw (← c.deref-done-items.ensures.value) c.done-item.is) c.in-Some.ensures.items same c.forks-parted.ensures c.in_ok-expect.ensures c.loop-done.invariant

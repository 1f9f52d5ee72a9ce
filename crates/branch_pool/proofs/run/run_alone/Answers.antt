use Rattle.std.proofs.Common.{◌∙◌, ap, ◌∷◌, [], ◌++◌}
use Rattle.branch_core.specs.Trees.{preorder}
use Rattle.branch_pool.proofs.Stacks.{one_done}
use Rattle.branch_pool.proofs.run.run_alone.Goals as goal

pub loop-branch-preserved : goal.loop-branch-preserved
loop-branch-preserved g c =
    one_done g.W.Work.tree c.loop-branch.pieces.items c.push-in-Some.new.self.items (preorder (g.W.Work.tree c.args.root)) c.loop-branch.stack.items c.pop.new.self.items
    c.pile.new.stack.items c.in-Some.branch c.in_ok-done.done.2 c.in_ok-done.children c.in-Some.ensures.items c.in_ok-done.ensures.tree
    (c.in_ok-push-2.ensures.items ∙ ap (λ x. c.loop-branch.pieces.items ++ x ∷ []) c.into_piece.ensures) c.in_ok-pile.ensures c.loop-branch.invariant

use Rattle.std.proofs.Common.{◌≡◌, ◌++◌, map, take}
use Rattle.branch_core.specs.Trees.{preorder}
use Rattle.branch_pool.specs.Children.{stacked, pieces_at}
use Rattle.branch_pool.proofs.whole.whole.Given as goal

abbrev pub invariant-loop-done : goal.invariant-loop-done
invariant-loop-done g l =
    map (λ d. d.2) (take l.done-index l.pieces.items) ++ stacked (pieces_at (g.W.Work.tree g.W.Work.root)) l.stack.items
    ≡ preorder (g.W.Work.tree g.W.Work.root)

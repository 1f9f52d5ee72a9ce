use Rattle.std.proofs.Common.{◌≡◌, ◌++◌}
use Rattle.std.specs.List.{sum_by}
use Rattle.branch_core.specs.Trees.{preorder}
use Rattle.branch_pool.specs.Children.{stacked, nodes}
use Rattle.branch_pool.proofs.run.run_alone.Given as goal

abbrev pub invariant-loop-branch : goal.invariant-loop-branch
invariant-loop-branch g l = l.pieces.items ++ stacked (λ i. preorder (g.W.Work.tree i)) l.stack.items ≡ preorder (g.W.Work.tree l.fn.root)

abbrev pub decreases-loop-branch : goal.decreases-loop-branch
decreases-loop-branch g l = sum_by (λ i. nodes (g.W.Work.tree i)) l.stack.items

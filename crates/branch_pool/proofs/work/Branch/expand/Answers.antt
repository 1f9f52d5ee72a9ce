use Rattle.std.proofs.Common.{◌≡◌, ◌∙◌, ap, subst, Option, Some, true, false}
use Rattle.branch_core.specs.Trees.{Fork}
use Rattle.branch_core.proofs.Conserved.{below_child}
use Rattle.branch_pool.specs.Children.{Children, Paths}
use Rattle.branch_pool.proofs.work.Branch.expand.Goals as goal

pub invariant_of-result : goal.invariant_of-result
invariant_of-result g c =
    let w = g.W.Work in
    let item = c.self.inside.item in
    let f : w.tree item ≡ Fork c.in_ok-piece.piece (w.tree c.in-Some.plus) (w.tree c.in-Some.minus) =
    subst (λ (o : Option (g.row.W-Item.Denot × g.row.W-Item.Denot)). Children w.tree (w.tree item) c.in_ok-piece.piece o) c.in-Some.is c.in_ok-piece.ensures.tree in
    let p = subst (λ (o : Option (g.row.W-Item.Denot × g.row.W-Item.Denot)). Paths w.path_of (w.path_of item) o) c.in-Some.is c.in_ok-piece.ensures.paths in
    rw p.0 (below_child (w.tree w.root) (w.path_of item) c.in_ok-piece.piece (w.tree c.in-Some.plus) (w.tree c.in-Some.minus) true (c.self.invariant ∙ ap (λ t. Some t) f))

pub invariant_of-result-in-Some : goal.invariant_of-result-in-Some
invariant_of-result-in-Some g c =
    let w = g.W.Work in
    let item = c.self.inside.item in
    let f : w.tree item ≡ Fork c.in_ok-piece.piece (w.tree c.in-Some.plus) (w.tree c.in-Some.minus) =
    subst (λ (o : Option (g.row.W-Item.Denot × g.row.W-Item.Denot)). Children w.tree (w.tree item) c.in_ok-piece.piece o) c.in-Some.is c.in_ok-piece.ensures.tree in
    let p = subst (λ (o : Option (g.row.W-Item.Denot × g.row.W-Item.Denot)). Paths w.path_of (w.path_of item) o) c.in-Some.is c.in_ok-piece.ensures.paths in
    rw p.1 (below_child (w.tree w.root) (w.path_of item) c.in_ok-piece.piece (w.tree c.in-Some.plus) (w.tree c.in-Some.minus) false (c.self.invariant ∙ ap (λ t. Some t) f))

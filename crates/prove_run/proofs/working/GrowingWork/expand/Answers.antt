use Rattle.std.proofs.Common.{subst, Some, None}
use Rattle.proof_steps.specs.declared.piece.Node.{Node}
use Rattle.prove_run.proofs.Expanded.{IsExpanded, expanded-as}
use Rattle.prove_run.proofs.working.GrowingWork.expand.Given.{Over}
use Rattle.prove_run.proofs.working.GrowingWork.expand.Goals as goal

parted : (g : Over) (c : goal.In-Some g) → IsExpanded g.K.Named.cons c.args.item.now c.in_ok-piece.piece (Some (c.in-Some.plus, c.in-Some.minus))
parted g c =
    subst (λ (n : Node). IsExpanded g.K.Named.cons n c.in_ok-piece.piece (Some (c.in-Some.plus, c.in-Some.minus))) c.item.view_is
    (expanded-as _ _ _ _ _ _ c.args.self.now.named c.in-Some.is c.item.invariant c.in_ok-piece.ensures.piece c.in_ok-piece.ensures.children)

pub invariant_of-result : goal.invariant_of-result
invariant_of-result g c = (parted g c).waiting.0

pub invariant_of-result-in-Some : goal.invariant_of-result-in-Some
invariant_of-result-in-Some g c = (parted g c).waiting.1

pub returns-in-None-clause-tree : goal.returns-in-None-clause-tree
returns-in-None-clause-tree g c =
    let leaf : IsExpanded g.K.Named.cons c.args.item.now c.in_ok-piece.piece None =
    subst (λ (n : Node). IsExpanded g.K.Named.cons n c.in_ok-piece.piece None) c.item.view_is
    (expanded-as _ _ _ _ _ _ c.args.self.now.named c.in-None.is c.item.invariant c.in_ok-piece.ensures.piece c.in_ok-piece.ensures.children) in
    leaf.tree

pub returns-in-Some-clause-tree : goal.returns-in-Some-clause-tree
returns-in-Some-clause-tree g c = (parted g c).tree

pub returns-in-Some-clause-paths : goal.returns-in-Some-clause-paths
returns-in-Some-clause-paths g c = (parted g c).paths

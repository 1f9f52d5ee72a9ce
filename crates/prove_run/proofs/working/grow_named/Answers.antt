use Rattle.std.proofs.Common.{◌≡◌, sym, ◌∙◌, ap, subst, List}
use Rattle.std.specs.Prelude.{IfOk}
use Rattle.poly_model.specs.Polynomial.{Polynomial}
use Rattle.proof_steps.specs.Trees.{tree_at}
use Rattle.proof_steps.specs.declared.piece.Node.{Node}
use Rattle.proof_steps.specs.declared.piece.Piece.{Piece}
use Rattle.branch_core.specs.Trees.{preorder}
use Rattle.prove_run.specs.Branches.{branches_of}
use Rattle.prove_run.proofs.Branches.{branches-preorder}
use Rattle.proof_steps.specs.declared.version.TheConstants.{VERSION}
use Rattle.prove_run.proofs.working.grow_named.Goals as goal

pub returns : goal.returns
returns g c =
    let cons = c.args.cons.now in
    let named = g.K.Named in
    let same : preorder (branches_of named.cons named.root) ≡ tree_at VERSION cons c.args.root =
    ap (λ (cs : List Polynomial). preorder (branches_of cs named.root)) (sym {A = List Polynomial} c.requires.named.0)
    ∙ ap (λ (n : Node). preorder (branches_of cons n)) (sym {A = Node} c.requires.named.1)
    ∙ branches-preorder cons c.args.root c.requires.root.pays in
    subst (λ (l : List Piece). IfOk c.run_all.result (λ pieces. pieces.items ≡ l)) same c.run_all.ensures

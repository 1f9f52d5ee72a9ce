use Rattle.std.proofs.Common.{◌≡◌, ◌<◌, List, [], ◌∷◌, ◌++◌, true, cond, is_some, sym, ◌∙◌, ap, subst, rules}
use Rattle.std.specs.Prelude.{IfOk}
use Rattle.proof_steps.specs.declared.piece.Node.{Node}
use Rattle.proof_steps.specs.declared.piece.Piece.{Piece}
use Rattle.branch_core.specs.declared.event.Event.{Event}
use Rattle.branch_core.specs.declared.event.Event.TheVariants as event
use Rattle.prove_run.specs.Branches.{branches_of}
use Rattle.prove_run.proofs.Branches.{branches-preorder}
use Rattle.prove_run.proofs.Expanded.{expanded}
use Rattle.prove_run.proofs.Stack.{AreTurns, size_of_stack, on-top, short, turned, smaller-stack, ended}
use Rattle.prove_run.proofs.growing.grow.Goals as goal

pub expand-requires-clause-fuel : goal.expand-requires-clause-fuel
expand-requires-clause-fuel g c =
    let w = subst (AreTurns c.args.cons.now c.args.root c.loop-node.book) c.in-Some.ensures.items c.loop-node.invariant.turns in
    (on-top _ _ _ c.pop.new.self.items c.in-Some.node w).at.waits.ready.pays

pub expand-requires-clause-most : goal.expand-requires-clause-most
expand-requires-clause-most g c =
    let w = subst (AreTurns c.args.cons.now c.args.root c.loop-node.book) c.in-Some.ensures.items c.loop-node.invariant.turns in
    (on-top _ _ _ c.pop.new.self.items c.in-Some.node w).at.waits.ready.most

pub expand-requires-clause-few : goal.expand-requires-clause-few
expand-requires-clause-few g c =
    let w = subst (AreTurns c.args.cons.now c.args.root c.loop-node.book) c.in-Some.ensures.items c.loop-node.invariant.turns in
    (on-top _ _ _ c.pop.new.self.items c.in-Some.node w).at.waits.ready.few

pub turn-requires-clause-may : goal.turn-requires-clause-may
turn-requires-clause-may g c =
    let w = subst (AreTurns c.args.cons.now c.args.root c.loop-node.book) c.in-Some.ensures.items c.loop-node.invariant.turns in
    (on-top _ _ _ c.pop.new.self.items c.in-Some.node w).may

pub turn-requires-clause-short : goal.turn-requires-clause-short
turn-requires-clause-short g c = λ splits.
    let w = subst (AreTurns c.args.cons.now c.args.root c.loop-node.book) c.in-Some.ensures.items c.loop-node.invariant.turns in
    let x = on-top _ _ _ c.pop.new.self.items c.in-Some.node w in
    let e = expanded c.args.cons.now c.in-Some.node c.in_ok-piece.piece c.in_ok-piece.children x.at.waits c.in_ok-piece.ensures.piece
    c.in_ok-piece.ensures.children in
    let two : is_some c.in_ok-piece.children ≡ true = cc (c.is_some.ensures, splits) in
    short c.args.cons.now c.in-Some.node c.in_ok-piece.piece c.in_ok-piece.children e two

pub loop-node-smaller : goal.loop-node-smaller
loop-node-smaller g c =
    let w = subst (AreTurns c.args.cons.now c.args.root c.loop-node.book) c.in-Some.ensures.items c.loop-node.invariant.turns in
    let x = on-top _ _ _ c.pop.new.self.items c.in-Some.node w in
    let e = expanded c.args.cons.now c.in-Some.node c.in_ok-piece.piece c.in_ok-piece.children x.at.waits c.in_ok-piece.ensures.piece
    c.in_ok-piece.ensures.children in
    subst (λ (l : List Node). size_of_stack c.args.cons.now l < size_of_stack c.args.cons.now c.loop-node.waiting.items)
    (sym {A = List Node} c.in_ok-push_children.ensures)
    (smaller-stack c.args.cons.now c.loop-node.waiting.items c.pop.new.self.items c.in-Some.node c.in_ok-piece.piece c.in_ok-piece.children
    c.in-Some.ensures.items e)

pub loop-node-preserved : goal.loop-node-preserved
loop-node-preserved g c =
    let n = c.in-Some.node in
    let p = c.in_ok-piece.piece in
    let w = subst (AreTurns c.args.cons.now c.args.root c.loop-node.book) c.in-Some.ensures.items c.loop-node.invariant.turns in
    let x = on-top _ _ _ c.pop.new.self.items c.in-Some.node w in
    let e = expanded c.args.cons.now n p c.in_ok-piece.children x.at.waits c.in_ok-piece.ensures.piece c.in_ok-piece.ensures.children in
    let t = turned c.args.cons.now c.args.root c.loop-node.book c.pop.new.self.items n p c.in_ok-piece.children w e in
    let book = c.in_ok-turn.ensures
    ∙ ap (λ b. c.loop-node.book ++ event.Take 0 n.path ∷ cond b (event.Split 0 n.path p) (event.Leaf 0 n.path p) ∷ []) c.is_some.ensures in
    record {
      turns =
          subst (λ (h : List (Event Piece)). AreTurns c.args.cons.now c.args.root h c.push_children.new.waiting.items) (sym {A = List (Event Piece)} book)
          (subst (AreTurns c.args.cons.now c.args.root _) (sym {A = List Node} c.in_ok-push_children.ensures) t);
      kept = record {
        lists = c.expand.ensures.kept.lists ∙ c.loop-node.invariant.kept.lists;
        spare = c.expand.ensures.kept.spare ∙ c.loop-node.invariant.kept.spare;
      };
    }

pub assemble-requires : goal.assemble-requires
assemble-requires g c =
    let none : c.loop-node.waiting.items ≡ [] = search rules in
    ended c.args.cons.now c.args.root c.loop-node.book (subst (AreTurns c.args.cons.now c.args.root c.loop-node.book) none c.loop-node.invariant.turns)

pub returns-clause-pieces : goal.returns-clause-pieces
returns-clause-pieces g c =
    subst (λ (l : List Piece). IfOk c.assemble.result (λ pieces. pieces.items ≡ l))
    (branches-preorder c.args.cons.now c.args.root c.requires.root.pays)
    (c.assemble.ensures.tree (branches_of c.args.cons.now c.args.root) c.loop-node.invariant.turns.of)

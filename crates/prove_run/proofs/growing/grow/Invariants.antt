use Rattle.term_store.specs.Changes.{Keeps}
use Rattle.prove_run.proofs.Stack.{AreTurns, size_of_stack}
use Rattle.prove_run.proofs.growing.grow.Given as goal

abbrev pub invariant-loop-node : goal.invariant-loop-node
invariant-loop-node g l = record {
  turns : AreTurns l.cons l.fn.root l.book l.waiting.items;
  kept : Keeps (g.S.TermStore.state l.initial.s) (g.S.TermStore.state l.s);
}

abbrev pub decreases-loop-node : goal.decreases-loop-node
decreases-loop-node g l = size_of_stack l.cons l.waiting.items

use Rattle.std.proofs.Common.{List, []}
use Rattle.poly_model.specs.Polynomial.{Polynomial}
use Rattle.tree_laws.proofs.Unfold.{Whole}
use Rattle.workbench.specs.Standing.{Stands, beneath, node_at}
use Rattle.wang_split.specs.Halts.{IsFew}
use Rattle.wang_split.proofs.working.work.Given as goal
use Rattle.proof_steps.specs.declared.version.TheConstants.{VERSION}

abbrev pub invariant-loop-attempt : goal.invariant-loop-attempt
invariant-loop-attempt g l =
    let s = g.S.TermStore.state l.initial.s in
    let t = g.S.TermStore.state l.s in
    record {
      few : IsFew (node_at t l.bench);
      stands : Stands (beneath s l.initial.bench) t [] l.bench;
      whole : (cons : List Polynomial) → Whole VERSION cons (node_at s l.initial.bench) (node_at t l.bench) l.steps.items;
    }

abbrev pub decreases-loop-attempt : goal.decreases-loop-attempt
decreases-loop-attempt g l = l.bench.fuel

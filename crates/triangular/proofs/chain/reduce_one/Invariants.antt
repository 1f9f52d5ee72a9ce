use Rattle.std.proofs.Common.{map}
use Rattle.term_store.specs.Changes.{Keeps, given_up}
use Rattle.polynomials.specs.Held.{IsPoly, polynomial_at, slot_of}
use Rattle.workbench.specs.Standing.{held_at}
use Rattle.triangular.specs.Chains.{Goes}
use Rattle.triangular.proofs.chain.reduce_one.Given as goal

abbrev pub invariant-loop-alloc : goal.invariant-loop-alloc
invariant-loop-alloc g l =
    let s = g.S.TermStore.state l.initial.s in
    let t = g.S.TermStore.state l.s in
    let base = given_up s (slot_of l.fn.p) in
    record {
      poly : IsPoly t l.rest;
      under : Keeps base (given_up t (slot_of l.rest));
      goes : Goes (map (held_at base) l.hs) l.k (polynomial_at s l.fn.p) l.initial.chain.steps.items l.initial.chain.left (polynomial_at t l.rest) l.chain.steps.items l.chain.left;
    }

abbrev pub decreases-loop-alloc : goal.decreases-loop-alloc
decreases-loop-alloc g l = l.chain.left

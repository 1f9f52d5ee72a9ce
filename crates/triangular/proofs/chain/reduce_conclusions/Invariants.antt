use Rattle.std.proofs.Common.{◌≡◌, ◌+◌, length, map}
use Rattle.term_store.specs.Changes.{Keeps}
use Rattle.polynomials.specs.Held.{polynomial_at}
use Rattle.triangular.specs.Chains.{Chains}
use Rattle.triangular.proofs.chain.reduce_conclusions.Given as goal

abbrev pub invariant-loop-first : goal.invariant-loop-first
invariant-loop-first g l =
    let s = g.S.TermStore.state l.initial.s in
    record {
      kept : Keeps s (g.S.TermStore.state l.s);
      chain : Chains (map (polynomial_at s) l.eqs) l.cons l.fuel l.k l.rest l.chain.steps.items l.chain.left;
      count : l.k + length l.rest ≡ 1 + length l.cons;
    }

abbrev pub decreases-loop-first : goal.decreases-loop-first
decreases-loop-first g l = length l.rest

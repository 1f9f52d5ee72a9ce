use Rattle.std.proofs.Common.{◌≡◌, length, map, ◌&&◌, not}
use Rattle.std.specs.List.{list_all}
use Rattle.poly_model.specs.Reduction.{class_of, is_constant}
use Rattle.proof_steps.specs.Rules.{is_settled}
use Rattle.term_store.specs.Changes.{Keeps}
use Rattle.polynomials.specs.Held.{polynomial_at}
use Rattle.workbench.specs.Standing.{AreHeld}
use Rattle.triangular.proofs.system.is_triangular.Given as goal

abbrev pub invariant-loop-first : goal.invariant-loop-first
invariant-loop-first g l =
    let s = g.S.TermStore.state l.initial.s in
    record {
      kept : Keeps s (g.S.TermStore.state l.s);
      same : list_all (λ p. not (is_constant p) && is_settled (map (polynomial_at s) l.eqs) (map (polynomial_at s) l.nes) (class_of p)) (map (polynomial_at s) l.rest)
          ≡ list_all (λ p. not (is_constant p) && is_settled (map (polynomial_at s) l.eqs) (map (polynomial_at s) l.nes) (class_of p)) (map (polynomial_at s) l.eqs);
      held : AreHeld s l.rest;
    }

abbrev pub decreases-loop-first : goal.decreases-loop-first
decreases-loop-first g l = length l.rest

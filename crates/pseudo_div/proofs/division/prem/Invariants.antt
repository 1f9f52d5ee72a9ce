use Rattle.polynomials.specs.Held.{Gives, polynomial_at}
use Rattle.pseudo_div.specs.Steps.{AreSteps, rest_after}
use Rattle.pseudo_div.proofs.division.prem.Given as goal

abbrev pub invariant-loop-alloc : goal.invariant-loop-alloc
invariant-loop-alloc g l =
    let state = g.S.TermStore.state in
    let G = polynomial_at (state l.fn.s) l.fn.g in
    let F = polynomial_at (state l.fn.s) l.f in
    record {
      made : Gives (state l.fn.s) (state l.s) l.rest (rest_after G F l.steps.items);
      paid : AreSteps F l.steps.items G l.fn.fuel (rest_after G F l.steps.items) l.left;
    }

abbrev pub decreases-loop-alloc : goal.decreases-loop-alloc
decreases-loop-alloc g l = l.left

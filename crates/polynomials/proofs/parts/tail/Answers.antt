use Rattle.std.proofs.Common.{◌∙◌}
use Rattle.poly_model.specs.Reduction.{without_degree, tail_of}
use Rattle.poly_model.proofs.Within.{within-of, standard-of}
use Rattle.poly_model.proofs.Standards.{tail-within}
use Rattle.polynomials.specs.Held.{polynomial_at}
use Rattle.polynomials.proofs.Outcomes as outcomes
use Rattle.polynomials.proofs.PieceLaws.{all-places, pieces-other_power}
use Rattle.polynomials.proofs.parts.tail.Goals as goal

pub changed-requires-clause-takes : goal.changed-requires-clause-takes
changed-requires-clause-takes g c =
    let p = polynomial_at (g.S.TermStore.state c.args.s.now) c.args.a in
    all-places c.leader-var.result.0 p c.leader-var.ensures.below (within-of p c.requires.a.standard).descending

pub returns : goal.returns
returns g c =
    let p = polynomial_at (g.S.TermStore.state c.args.s.now) c.args.a in
    outcomes.gives _ _ c.changed.result (tail_of p) c.changed.ensures.made
    (c.changed.ensures.value ∙ pieces-other_power c.leader-var.result.0 c.leader-var.result.1 p ∙ (λ i. without_degree (c.leader-var.ensures.place i) (c.leader-var.ensures.degree i) p))
    (standard-of (tail_of p) (tail-within p (within-of p c.requires.a.standard)))

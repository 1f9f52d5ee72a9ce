use Rattle.std.proofs.Common.{◌∙◌}
use Rattle.poly_model.specs.Reduction.{coefficient_at}
use Rattle.poly_model.proofs.Within.{within-of, standard-of}
use Rattle.poly_model.proofs.Standards.{coefficient-within}
use Rattle.polynomials.specs.Held.{polynomial_at}
use Rattle.polynomials.proofs.Outcomes as outcomes
use Rattle.polynomials.proofs.PieceLaws.{all-places, pieces-cofactor}
use Rattle.polynomials.proofs.parts.coefficient.Goals as goal

pub changed-requires-clause-takes : goal.changed-requires-clause-takes
changed-requires-clause-takes g c =
    let p = polynomial_at (g.S.TermStore.state c.args.s.now) c.args.a in
    all-places c.args.var p c.requires.var (within-of p c.requires.a.standard).descending

pub returns : goal.returns
returns g c =
    let p = polynomial_at (g.S.TermStore.state c.args.s.now) c.args.a in
    let q = coefficient_at c.args.var c.args.e p in
    outcomes.gives _ _ c.changed.result q c.changed.ensures.made (c.changed.ensures.value ∙ pieces-cofactor c.args.var c.args.e p)
    (standard-of q (coefficient-within c.args.var c.args.e p (within-of p c.requires.a.standard)))

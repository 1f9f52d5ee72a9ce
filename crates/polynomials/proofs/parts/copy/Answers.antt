use Rattle.std.proofs.Common.{◌∙◌}
use Rattle.polynomials.specs.Held.{polynomial_at}
use Rattle.polynomials.proofs.Outcomes as outcomes
use Rattle.polynomials.proofs.PieceLaws.{all-taken, pieces-unchanged}
use Rattle.polynomials.proofs.parts.copy.Goals as goal

pub changed-requires-clause-takes : goal.changed-requires-clause-takes
changed-requires-clause-takes g c = all-taken (polynomial_at (g.S.TermStore.state c.args.s.now) c.args.a)

pub returns : goal.returns
returns g c =
    let p = polynomial_at (g.S.TermStore.state c.args.s.now) c.args.a in
    outcomes.gives _ _ c.changed.result p c.changed.ensures.made (c.changed.ensures.value ∙ pieces-unchanged p) c.requires.a.standard

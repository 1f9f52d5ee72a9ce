use Rattle.std.proofs.Common.{◌+◌, ◌≤◌, ◌∙◌, ap, arith, true, false}
use Rattle.std.specs.Prelude.{Ok, Err, Result}
use Rattle.std.proofs.lemmas.Bool.{le-leb}
use Rattle.poly_model.specs.Polynomial.{Polynomial}
use Rattle.poly_model.specs.Reduction.{degree_at, shifted}
use Rattle.poly_model.specs.declared.limits.Limit.{Limit}
use Rattle.poly_model.specs.declared.limits.Limit.TheVariants.{Degree}
use Rattle.poly_model.specs.declared.limits.TheConstants.{MOST_DEGREE}
use Rattle.poly_model.proofs.Within.{within-of, standard-of}
use Rattle.poly_model.proofs.Standards.{shifted-within}
use Rattle.polynomials.specs.Held.{polynomial_at}
use Rattle.polynomials.proofs.Outcomes as outcomes
use Rattle.polynomials.proofs.PieceLaws.{all-raisable, pieces-raised}
use Rattle.polynomials.proofs.parts.shift.Goals as goal

pub changed-slot-requires-clause-takes : goal.changed-slot-requires-clause-takes
changed-slot-requires-clause-takes g c =
    let p = polynomial_at (g.S.TermStore.state c.args.s.now) c.args.a in
    let fits : degree_at c.args.var p + c.args.by ≤ MOST_DEGREE = omega arith in
    all-raisable c.args.var c.args.by p c.requires.var (within-of p c.requires.a.standard).descending fits

pub returns : goal.returns
returns g c =
    let p = polynomial_at (g.S.TermStore.state c.args.s.now) c.args.a in
    let fits : degree_at c.args.var p + c.args.by ≤ MOST_DEGREE = omega arith in
    let q = shifted c.args.var c.args.by p in
    outcomes.answers-ok _ _ _ q _ (ap (λ b. elim b as (λ _. Result Polynomial Limit) [ false ↦ Err Degree | true ↦ Ok q ]) (le-leb _ MOST_DEGREE fits))
    c.changed-slot.ensures.made (c.changed-slot.ensures.value ∙ pieces-raised c.args.var c.args.by p)
    (standard-of q (shifted-within c.args.var c.args.by p fits (within-of p c.requires.a.standard)))

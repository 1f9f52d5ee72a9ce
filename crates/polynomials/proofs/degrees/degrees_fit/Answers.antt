use Rattle.std.proofs.Common.{◌∙◌, ap}
use Rattle.poly_model.specs.Standard.{are_low}
use Rattle.poly_model.proofs.Within.{within-of}
use Rattle.polynomials.specs.Held.{polynomial_at}
use Rattle.polynomials.proofs.Raising as raising
use Rattle.polynomials.proofs.degrees.degrees_fit.Goals as goal

pub exponents_sum-requires-clause-a : goal.exponents_sum-requires-clause-a
exponents_sum-requires-clause-a g c =
    let p = polynomial_at (g.S.TermStore.state c.args.s.now) c.args.a in
    ap are_low c.degrees-first.ensures ∙ raising.low-degrees p (within-of p c.requires.a.standard).low

pub exponents_sum-requires-clause-b : goal.exponents_sum-requires-clause-b
exponents_sum-requires-clause-b g c =
    let p = polynomial_at (g.S.TermStore.state c.args.s.now) c.args.b in
    ap are_low c.degrees-second.ensures ∙ raising.low-degrees p (within-of p c.requires.b.standard).low

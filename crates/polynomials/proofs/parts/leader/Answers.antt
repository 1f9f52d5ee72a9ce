use Rattle.std.proofs.Common.{◌≡◌, suc, sym, ◌∙◌, ap, arith}
use Rattle.poly_model.specs.Reduction.{class_of}
use Rattle.poly_model.specs.declared.limits.TheConstants.{MOST_VARIABLES}
use Rattle.poly_model.proofs.Within.{within-of}
use Rattle.polynomials.specs.Held.{polynomial_at, class_number}
use Rattle.polynomials.proofs.Reading as reading
use Rattle.polynomials.proofs.parts.leader.Goals as goal

pub degree-requires-clause-var : goal.degree-requires-clause-var
degree-requires-clause-var g c =
    let p = polynomial_at (g.S.TermStore.state c.args.s.now) c.args.a in
    let is : suc c.in-Some.var ≡ class_of p = sym (ap class_number c.in-Some.is) ∙ c.class.ensures in
    omega (arith, is, reading.class-within MOST_VARIABLES p (within-of p c.requires.a.standard).descending)

pub returns-clause-below : goal.returns-clause-below
returns-clause-below g c =
    let p = polynomial_at (g.S.TermStore.state c.args.s.now) c.args.a in
    let is : suc c.in-Some.var ≡ class_of p = sym (ap class_number c.in-Some.is) ∙ c.class.ensures in
    omega (arith, is, reading.class-within MOST_VARIABLES p (within-of p c.requires.a.standard).descending)

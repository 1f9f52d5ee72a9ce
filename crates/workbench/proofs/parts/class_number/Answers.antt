use Rattle.std.proofs.Common.{arith}
use Rattle.poly_model.specs.declared.limits.TheConstants.{MOST_VARIABLES}
use Rattle.poly_model.proofs.Within.{within-of}
use Rattle.polynomials.specs.Held.{polynomial_at}
use Rattle.polynomials.proofs.Reading.{class-within}
use Rattle.workbench.proofs.parts.class_number.Goals as goal

pub overflow_add-result : goal.overflow_add-result
overflow_add-result g c =
    let p = polynomial_at (g.S.TermStore.state c.args.s.now) c.args.p in
    let w = class-within MOST_VARIABLES p (within-of p c.requires.standard).descending in
    let e = c.in-Some.ensures in
    omega (arith, w, e)

pub returns-in-Some-clause-within : goal.returns-in-Some-clause-within
returns-in-Some-clause-within g c =
    let p = polynomial_at (g.S.TermStore.state c.args.s.now) c.args.p in
    let w = class-within MOST_VARIABLES p (within-of p c.requires.standard).descending in
    let e = c.in-Some.ensures in
    omega (arith, w, e)

use Rattle.std.proofs.Common.{◌≡◌, ◌<◌, [], length, get_or, ap, arith}
use Rattle.std.specs.Prelude.{pos}
use Rattle.poly_model.specs.declared.term.Term.{Term}
use Rattle.poly_model.specs.Reduction.{class_of}
use Rattle.poly_model.specs.Standard.{polynomial_of}
use Rattle.polynomials.proofs.Steps as steps
use Rattle.polynomials.proofs.Reading as reading
use Rattle.polynomials.proofs.rows.compare_at.Goals as goal

pub compare_below-requires-clause-a : goal.compare_below-requires-clause-a
compare_below-requires-clause-a g c =
    let none : Term = record { coef = pos 0; exps = [] } in
    let terms = c.terms.result.now in
    let below : c.args.i < length terms = omega (arith, c.requires.below_a, ap length c.terms.ensures) in
    let class = reading.class-at terms c.args.i (get_or terms c.args.i none) below (steps.own-item terms c.args.i none below) in
    let same = ap (λ l. class_of (polynomial_of l)) c.terms.ensures in
    omega (arith, class, same, c.requires.used_a)

pub compare_below-requires-clause-b : goal.compare_below-requires-clause-b
compare_below-requires-clause-b g c =
    let none : Term = record { coef = pos 0; exps = [] } in
    let terms = c.terms-2.result.now in
    let below : c.args.j < length terms = omega (arith, c.requires.below_b, ap length c.terms-2.ensures) in
    let class = reading.class-at terms c.args.j (get_or terms c.args.j none) below (steps.own-item terms c.args.j none below) in
    let same = ap (λ l. class_of (polynomial_of l)) c.terms-2.ensures in
    omega (arith, class, same, c.requires.used_b)

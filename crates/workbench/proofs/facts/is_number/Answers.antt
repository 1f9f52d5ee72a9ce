use Rattle.std.proofs.Common.{◌<◌, length, arith, ◌∙◌, ap}
use Rattle.std.specs.Prelude.{◌==◌}
use Rattle.polynomials.specs.Held.{polynomial_at}
use Rattle.workbench.proofs.Tests as tests
use Rattle.workbench.proofs.facts.is_number.Goals as goal

pub returns-then-term_count-gt0 : goal.returns-then-term_count-gt0
returns-then-term_count-gt0 g c =
    let s = g.S.TermStore.state c.args.s.now in
    let some : 0 < length (polynomial_at s c.args.p) = omega (arith, c.term_count.ensures, c.if-term_count-gt0.true) in
    ap (λ k. k == 0) c.class_number.ensures.class ∙ tests.number-is (polynomial_at s c.args.p) c.requires.standard some

use Rattle.std.proofs.Common.{◌∙◌, map}
use Rattle.polynomials.specs.Held.{polynomial_at}
use Rattle.triangular.proofs.Counted as counted
use Rattle.triangular.proofs.system.count.Goals as goal

pub returns : goal.returns
returns g c =
    let s = g.S.TermStore.state c.args.s.now in
    counted.count-end c.args.x c.loop-first.sum _ (polynomial_at s) c.loop-first.rest.now c.in_default.ensures.cases c.loop-first.invariant.same
    ∙ counted.count-is c.args.x (map (polynomial_at s) c.args.eqs.now)

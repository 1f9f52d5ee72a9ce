use Rattle.std.proofs.Common.{sym, ◌∙◌, ap, subst}
use Rattle.poly_model.specs.Powers.{lowered, stripped}
use Rattle.poly_model.proofs.Powers.{AllReach, low-reached}
use Rattle.poly_model.proofs.PowersWithin.{stripped-within}
use Rattle.poly_model.proofs.Within.{within-of, standard-of}
use Rattle.polynomials.specs.Held.{polynomial_at}
use Rattle.polynomials.proofs.PieceLaws.{all-lowerable, pieces-lowered}
use Rattle.polynomials.proofs.powers.strip.Goals as goal

pub changed-requires-clause-takes : goal.changed-requires-clause-takes
changed-requires-clause-takes g c =
    let p = polynomial_at (g.S.TermStore.state c.args.s.now) c.args.a in
    all-lowerable c.args.var c.low-by.result p c.requires.var (within-of p c.requires.a.standard).descending
    (subst (λ k. AllReach c.args.var k p) (sym c.low-by.ensures) (low-reached c.args.var p))

pub returns : goal.returns
returns g c =
    let p = polynomial_at (g.S.TermStore.state c.args.s.now) c.args.a in
    record {
      makes = c.changed.ensures.made;
      value = c.changed.ensures.value ∙ pieces-lowered c.args.var c.low-by.result p ∙ ap (λ k. lowered c.args.var k p) c.low-by.ensures;
      standard = standard-of (stripped c.args.var p) (stripped-within c.args.var p (within-of p c.requires.a.standard));
    }

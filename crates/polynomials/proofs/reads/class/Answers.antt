use Rattle.std.proofs.Common.{◌∙◌, arith}
use Rattle.poly_model.specs.declared.limits.TheConstants.{MOST_VARIABLES}
use Rattle.poly_model.proofs.Within.{within-of}
use Rattle.term_store.specs.States.{list_at}
use Rattle.polynomials.specs.Held.{polynomial_at}
use Rattle.polynomials.proofs.Reading as reading
use Rattle.polynomials.proofs.reads.class.Goals as goal

pub returns : goal.returns
returns g c =
    let xs = list_at (g.S.TermStore.state c.args.s.now).lists c.args.a.slot.0 in
    c.greatest.ensures ∙ reading.class-of_first MOST_VARIABLES xs c.get.result (λ e. omega (arith, e)) c.get.ensures
    (within-of (polynomial_at (g.S.TermStore.state c.args.s.now) c.args.a) c.requires.standard).descending

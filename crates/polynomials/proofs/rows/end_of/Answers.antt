use Rattle.std.proofs.Common.{arith}
use Rattle.poly_model.specs.declared.limits.TheConstants.{MOST_VARIABLES}
use Rattle.term_store.specs.States.{list_at}
use Rattle.polynomials.proofs.Reading as reading
use Rattle.polynomials.proofs.rows.end_of.Goals as goal

pub returns-then-len-eq0-clause-used : goal.returns-then-len-eq0-clause-used
returns-then-len-eq0-clause-used g c = reading.class-none (list_at (g.S.TermStore.state c.args.s.now).lists c.args.a.0) (omega arith)

pub returns-clause-used : goal.returns-clause-used
returns-clause-used g c =
    let xs = list_at (g.S.TermStore.state c.args.s.now).lists c.args.a.0 in
    let first = reading.class-of_first MOST_VARIABLES xs c.get.result (λ e. omega (arith, e)) c.get.ensures c.requires.descending in
    let below = reading.class-below c.end_of_used.result c.get.result.exps c.end_of_used.ensures.unused in
    omega (arith, first, below)

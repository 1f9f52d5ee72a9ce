use Rattle.triangular.proofs.Beside as beside
use Rattle.triangular.proofs.Reducing as reducing
use Rattle.std.proofs.Common.{sym, ◌∙◌}
use Rattle.polynomials.specs.Held.{polynomial_at}
use Rattle.triangular.proofs.reducer.divisor_of.Goals as goal

pub reducing_class-x-requires-clause-hs : goal.reducing_class-x-requires-clause-hs
reducing_class-x-requires-clause-hs g c = reducing.within-told c.requires.tell.0 c.args.hs.now _ c.requires.tell.1

pub returns-then-x-eq0-clause-none : goal.returns-then-x-eq0-clause-none
returns-then-x-eq0-clause-none g c =
    sym (reducing.reducing-tied c.requires.tell.0 (polynomial_at (g.S.TermStore.state c.args.s.now) c.args.p) c.args.hs.now _ c.requires.tell.1) ∙ sym c.reducing_class-x.ensures ∙ c.if-x-eq0.true

pub equation-requires-clause-low : goal.equation-requires-clause-low
equation-requires-clause-low g c =
    (beside.placed (g.S.TermStore.state c.args.s.now) c.requires.tell.0 c.args.hs.now (polynomial_at (g.S.TermStore.state c.args.s.now) c.args.p) c.reducing_class-x.result c.first_of_class-f.result
    c.requires.tell.1 c.requires.own c.reducing_class-x.ensures c.if-x-eq0.false c.first_of_class-f.ensures.place).low

pub equation-requires-clause-below : goal.equation-requires-clause-below
equation-requires-clause-below g c =
    (beside.placed (g.S.TermStore.state c.args.s.now) c.requires.tell.0 c.args.hs.now (polynomial_at (g.S.TermStore.state c.args.s.now) c.args.p) c.reducing_class-x.result c.first_of_class-f.result
    c.requires.tell.1 c.requires.own c.reducing_class-x.ensures c.if-x-eq0.false c.first_of_class-f.ensures.place).below

pub returns-clause-some : goal.returns-clause-some
returns-clause-some g c =
    beside.reducer (g.S.TermStore.state c.args.s.now) c.requires.tell.0 c.args.hs.now (polynomial_at (g.S.TermStore.state c.args.s.now) c.args.p) c.reducing_class-x.result c.first_of_class-f.result c.equation.result
    c.requires.found c.requires.tell.1 c.requires.own c.reducing_class-x.ensures c.if-x-eq0.false c.first_of_class-f.ensures.place c.equation.ensures

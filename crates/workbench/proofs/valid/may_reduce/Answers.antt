use Rattle.std.proofs.Common.{◌∙◌}
use Rattle.workbench.proofs.Validity as validity
use Rattle.workbench.proofs.valid.may_reduce.Goals as goal

pub may_divide-requires-clause-p : goal.may_divide-requires-clause-p
may_divide-requires-clause-p g c =
    let b = c.args.bench.now in
    (validity.found _ (g.S.TermStore.state c.args.s.now) b c.args.g c.in-Some.p c.requires (validity.numbered _ b.eqs.items c.args.g c.in-Some.p c.deref.ensures.value c.in-Some.ensures)).poly

pub may_divide-requires-clause-class : goal.may_divide-requires-clause-class
may_divide-requires-clause-class g c =
    let b = c.args.bench.now in
    let h = c.in-Some-numbered.h in
    (validity.found _ (g.S.TermStore.state c.args.s.now) b c.args.f h c.requires (validity.numbered _ b.eqs.items c.args.f h c.deref-2.ensures.value c.in-Some-numbered.ensures)).class

pub returns-then-g-f : goal.returns-then-g-f
returns-then-g-f g c =
    let b = c.args.bench.now in
    let x = c.in-Some.p in
    let h = c.in-Some-numbered.h in
    c.may_divide.ensures
    ∙ validity.red-may c.args.version _ (g.S.TermStore.state c.args.s.now) b c.args.g c.args.f x h c.requires (validity.numbered _ b.eqs.items c.args.g x c.deref.ensures.value c.in-Some.ensures)
    (validity.numbered _ b.eqs.items c.args.f h c.deref-2.ensures.value c.in-Some-numbered.ensures) c.if-g-f.true

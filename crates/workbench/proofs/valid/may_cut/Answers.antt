use Rattle.std.proofs.Common.{map, sym, ◌∙◌, ap, subst}
use Rattle.poly_model.specs.Reduction.{has_polynomial, primitive_initial}
use Rattle.workbench.specs.Standing.{AreFound, held_at}
use Rattle.workbench.proofs.Choice as choice
use Rattle.workbench.proofs.Validity as validity
use Rattle.workbench.proofs.valid.may_cut.Goals as goal

pub returns-then-h-eq0-clause-value : goal.returns-then-h-eq0-clause-value
returns-then-h-eq0-clause-value g c =
    let b = c.args.bench.now in
    validity.constant-tail c.args.version _ (g.S.TermStore.state c.args.s.now) b c.args.f c.in-Some.h c.requires.stands (validity.numbered _ b.eqs.items c.args.f c.in-Some.h c.deref.ensures.value c.in-Some.ensures) c.if-h-eq0.true

pub has_initial-requires-clause-hs : goal.has_initial-requires-clause-hs
has_initial-requires-clause-hs g c =
    subst (AreFound (g.S.TermStore.state c.args.s.now)) (sym c.deref-2.ensures.value) (choice.found-all _ (g.S.TermStore.state c.args.s.now) _ c.args.bench.now c.requires.stands)

pub has_initial-requires-clause-p : goal.has_initial-requires-clause-p
has_initial-requires-clause-p g c =
    let b = c.args.bench.now in
    (validity.found _ (g.S.TermStore.state c.args.s.now) b c.args.f c.in-Some.h c.requires.stands (validity.numbered _ b.eqs.items c.args.f c.in-Some.h c.deref.ensures.value c.in-Some.ensures)).poly

pub returns-clause-value : goal.returns-clause-value
returns-clause-value g c =
    let s = g.S.TermStore.state c.args.s.now in
    let b = c.args.bench.now in
    c.has_initial.ensures.value ∙ ap (λ l. has_polynomial (map (held_at s) l) (primitive_initial (held_at s c.in-Some.h))) c.deref-2.ensures.value
    ∙ validity.tail-is c.args.version _ s b c.args.f c.in-Some.h c.requires.stands (validity.numbered _ b.eqs.items c.args.f c.in-Some.h c.deref.ensures.value c.in-Some.ensures) c.if-h-eq0.false

use Rattle.std.proofs.Common.{◌-◌, take, sym, ◌∙◌, ap, subst}
use Rattle.std.proofs.lemmas.Bool.{eq-eqb}
use Rattle.workbench.specs.Searches.{among_in}
use Rattle.workbench.specs.Standing.{AreFound, held_at}
use Rattle.workbench.proofs.Choice as choice
use Rattle.workbench.proofs.Tied as tied
use Rattle.workbench.proofs.Validity as validity
use Rattle.workbench.proofs.valid.may_drop.Goals as goal

pub is_among-requires-clause-hs : goal.is_among-requires-clause-hs
is_among-requires-clause-hs g c =
    let s = g.S.TermStore.state c.args.s.now in
    let b = c.args.bench.now in
    subst (λ l. AreFound s (take (c.args.i - 1) l)) (sym c.deref-else-h-eq0.ensures.value) (tied.found-take s (c.args.i - 1) b.eqs.items (choice.found-all _ s _ b c.requires))

pub is_among-requires-clause-h : goal.is_among-requires-clause-h
is_among-requires-clause-h g c =
    let b = c.args.bench.now in
    (validity.found _ (g.S.TermStore.state c.args.s.now) b c.args.i c.in-Some.h c.requires (validity.numbered _ b.eqs.items c.args.i c.in-Some.h c.deref.ensures.value c.in-Some.ensures)).poly

pub returns-then-h-eq0 : goal.returns-then-h-eq0
returns-then-h-eq0 g c =
    let b = c.args.bench.now in
    eq-eqb _ 0 c.if-h-eq0.true ∙ validity.zero-drop c.args.version _ (g.S.TermStore.state c.args.s.now) b c.args.i c.in-Some.h c.requires (validity.numbered _ b.eqs.items c.args.i c.in-Some.h c.deref.ensures.value c.in-Some.ensures) c.if-h-eq0.true

pub returns-else-h-eq0 : goal.returns-else-h-eq0
returns-else-h-eq0 g c =
    let s = g.S.TermStore.state c.args.s.now in
    let b = c.args.bench.now in
    c.is_among.ensures ∙ ap (λ l. among_in (held_at s) (take (c.args.i - 1) l) c.in-Some.h) c.deref-else-h-eq0.ensures.value
    ∙ validity.among-drop c.args.version _ s b c.args.i c.in-Some.h c.requires (validity.numbered _ b.eqs.items c.args.i c.in-Some.h c.deref.ensures.value c.in-Some.ensures) c.if-h-eq0.false

use Rattle.workbench.proofs.Validity as validity
use Rattle.workbench.proofs.valid.may_split.Goals as goal

pub returns-in-Some : goal.returns-in-Some
returns-in-Some g c =
    let b = c.args.bench.now in
    validity.split-is c.args.version _ (g.S.TermStore.state c.args.s.now) b c.args.f c.in-Some.h c.requires (validity.numbered _ b.eqs.items c.args.f c.in-Some.h c.deref.ensures.value c.in-Some.ensures)

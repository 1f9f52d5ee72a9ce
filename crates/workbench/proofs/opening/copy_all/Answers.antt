use Rattle.std.proofs.Common.{◌∙◌, map, sym, subst}
use Rattle.term_store.specs.Changes.{Keeps}
use Rattle.term_store.proofs.Making as making
use Rattle.polynomials.specs.Held.{slot_of}
use Rattle.workbench.specs.Owned.{AreLive, without}
use Rattle.workbench.proofs.Copying as copying
use Rattle.workbench.proofs.Copying.{Copying}
use Rattle.workbench.proofs.opening.copy_all.Goals as goal

pub give_up-requires : goal.give_up-requires
give_up-requires g c = making.makes-live _ _ _ c.copy_in-p.ensures.makes

pub release_polys-requires : goal.release_polys-requires
release_polys-requires g c =
    let s = g.S.TermStore.state c.args.s.now in
    let t = g.S.TermStore.state c.loop-first.s in
    let v = g.S.TermStore.state c.give_up.new.s in
    let k : Keeps t v = making.makes-freed _ _ _ _ c.copy_in-p.ensures.makes c.give_up.ensures.lists c.give_up.ensures.spare in
    subst (λ l. AreLive v (map slot_of l)) (sym (c.deref.ensures.value ∙ c.in-Err.ensures.items)) (copying.live-again s t v (map slot_of c.loop-first.copies.items) c.loop-first.invariant.owns k)

pub returns-in-Err-clause-refused : goal.returns-in-Err-clause-refused
returns-in-Err-clause-refused g c =
    let s = g.S.TermStore.state c.args.s.now in
    let t = g.S.TermStore.state c.loop-first.s in
    let v = g.S.TermStore.state c.give_up.new.s in
    let w = g.S.TermStore.state c.release_polys.new.s in
    let k : Keeps t v = making.makes-freed _ _ _ _ c.copy_in-p.ensures.makes c.give_up.ensures.lists c.give_up.ensures.spare in
    copying.given-back s t v w (map slot_of c.loop-first.copies.items) c.loop-first.invariant.owns k
    (subst (λ l. Keeps (without v (map slot_of l)) w) (c.deref.ensures.value ∙ c.in-Err.ensures.items) c.release_polys.ensures)

pub loop-first-preserved : goal.loop-first-preserved
loop-first-preserved g c =
    let s = g.S.TermStore.state c.args.s.now in
    let t = g.S.TermStore.state c.loop-first.s in
    let u = g.S.TermStore.state c.copy_in-p.new.s in
    let copies = c.loop-first.copies.items in
    subst (λ l. Copying s u l c.in-Some.after.now c.args.ps.now) (sym c.in_default-push.ensures.items)
    (copying.copied-more s t u copies c.in-Some.first.now c.in-Some.after.now c.args.ps.now c.copy_in-p.result
    (subst (λ l. Copying s t copies l c.args.ps.now) c.in-Some.ensures.cases.0 c.loop-first.invariant) c.copy_in-p.ensures)

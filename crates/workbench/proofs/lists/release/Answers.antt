use Rattle.std.proofs.Common.{map, sym, subst}
use Rattle.polynomials.specs.Held.{slot_of}
use Rattle.term_store.specs.Changes.{Keeps}
use Rattle.workbench.specs.Owned.{AreLive, without}
use Rattle.workbench.specs.Standing.{held_slot}
use Rattle.workbench.proofs.Owning as owning
use Rattle.workbench.proofs.lists.release.Goals as goal

pub release_held-requires : goal.release_held-requires
release_held-requires g c =
    let s = g.S.TermStore.state c.args.s.now in
    subst (λ l. AreLive s (map held_slot l)) (sym c.deref.ensures.value) (owning.are-front s (map held_slot c.args.bench.eqs.items) (map slot_of c.args.bench.nes.items) (owning.owned-are _ s _ c.requires))

pub release_polys-requires : goal.release_polys-requires
release_polys-requires g c =
    let s = g.S.TermStore.state c.args.s.now in
    let t = g.S.TermStore.state c.release_held.new.s in
    let E = map held_slot c.args.bench.eqs.items in
    let N = map slot_of c.args.bench.nes.items in
    let kept : Keeps (without s E) t = subst (λ l. Keeps (without s (map held_slot l)) t) c.deref.ensures.value c.release_held.ensures in
    subst (λ l. AreLive t (map slot_of l)) (sym c.deref-2.ensures.value) (owning.are-keeps (without s E) t N kept (owning.are-back s E N (owning.owned-are _ s _ c.requires)))

pub returns : goal.returns
returns g c =
    let s = g.S.TermStore.state c.args.s.now in
    let t = g.S.TermStore.state c.release_held.new.s in
    let u = g.S.TermStore.state c.release_polys.new.s in
    let E = map held_slot c.args.bench.eqs.items in
    let N = map slot_of c.args.bench.nes.items in
    let kept : Keeps (without s E) t = subst (λ l. Keeps (without s (map held_slot l)) t) c.deref.ensures.value c.release_held.ensures in
    let rest : Keeps (without t N) u = subst (λ l. Keeps (without t (map slot_of l)) u) c.deref-2.ensures.value c.release_polys.ensures in
    subst (λ b. Keeps b u) (sym (owning.without-append s E N)) (owning.keeps-then (without (without s E) N) (without t N) u (owning.without-keeps (without s E) t N kept) rest)

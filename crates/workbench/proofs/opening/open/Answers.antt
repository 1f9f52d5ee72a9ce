use Rattle.std.proofs.Common.{◌≡◌, ◌+◌, ◌∙◌, map, refl, sym, subst, ap, arith}
use Rattle.proof_steps.specs.Rules.{sizes, size_of}
use Rattle.term_store.specs.Changes.{Keeps}
use Rattle.polynomials.specs.Held.{polynomial_at, slot_of}
use Rattle.workbench.specs.Owned.{AreLive, without}
use Rattle.workbench.specs.Standing.{AllTell, AreHeld, held_at}
use Rattle.workbench.specs.Copies.{Copied}
use Rattle.workbench.proofs.Copying as copying
use Rattle.workbench.proofs.Opened as opened
use Rattle.workbench.proofs.opening.open.Goals as goal

pub copy_all-requires-2 : goal.copy_all-requires-2
copy_all-requires-2 g c =
    let s = g.S.TermStore.state c.args.s.now in
    let a = g.S.TermStore.state c.copy_all.new.s in
    let n = c.args.node.now in
    let nes = c.in_ok-nes.nes.items in
    let first : Copied s a nes n.nes = subst (Copied s a nes) c.as_slice-3.ensures c.in_ok-nes.ensures.copied in
    let left = opened.copies-room s a nes n.nes first in
    let enough = c.requires.fuel in
    let most = c.requires.most in
    let room = c.requires.room in
    let slice = ap sizes c.as_slice-4.ensures in
    record { room = omega (arith, left, enough, most, room, slice) }

pub release_polys-requires : goal.release_polys-requires
release_polys-requires g c =
    let s = g.S.TermStore.state c.args.s.now in
    let a = g.S.TermStore.state c.copy_all.new.s in
    let b = g.S.TermStore.state c.copy_all-2.new.s in
    let n = c.args.node.now in
    let nes = c.in_ok-nes.nes.items in
    let first : Copied s a nes n.nes = subst (Copied s a nes) c.as_slice-3.ensures c.in_ok-nes.ensures.copied in
    subst (λ l. AreLive b (map slot_of l)) (sym c.deref.ensures.value) (copying.live-again s a b (map slot_of nes) first.owns c.in-Err.ensures.refused)

pub returns-in-Err-clause-refused : goal.returns-in-Err-clause-refused
returns-in-Err-clause-refused g c =
    let s = g.S.TermStore.state c.args.s.now in
    let a = g.S.TermStore.state c.copy_all.new.s in
    let b = g.S.TermStore.state c.copy_all-2.new.s in
    let n = c.args.node.now in
    let nes = c.in_ok-nes.nes.items in
    let first : Copied s a nes n.nes = subst (Copied s a nes) c.as_slice-3.ensures c.in_ok-nes.ensures.copied in
    let w = g.S.TermStore.state c.release_polys.new.s in
    copying.given-back s a b w (map slot_of nes) first.owns c.in-Err.ensures.refused (subst (λ l. Keeps (without b (map slot_of l)) w) c.deref.ensures.value c.release_polys.ensures)

pub all_held-requires-clause-nes : goal.all_held-requires-clause-nes
all_held-requires-clause-nes g c =
    let s = g.S.TermStore.state c.args.s.now in
    let a = g.S.TermStore.state c.copy_all.new.s in
    let b = g.S.TermStore.state c.copy_all-2.new.s in
    let n = c.args.node.now in
    let nes = c.in_ok-nes.nes.items in
    let first : Copied s a nes n.nes = subst (Copied s a nes) c.as_slice-3.ensures c.in_ok-nes.ensures.copied in
    let eqs = c.in-Ok.eqs.items in
    let second : Copied a b eqs n.eqs = subst (Copied a b eqs) c.as_slice-4.ensures c.in-Ok.ensures.copied in
    subst (AreHeld b) (sym c.deref-2.ensures.value) (opened.copies-stay s a b nes eqs n.nes n.eqs first second)

pub all_held-requires-clause-ps : goal.all_held-requires-clause-ps
all_held-requires-clause-ps g c =
    let s = g.S.TermStore.state c.args.s.now in
    let a = g.S.TermStore.state c.copy_all.new.s in
    let b = g.S.TermStore.state c.copy_all-2.new.s in
    let n = c.args.node.now in
    let nes = c.in_ok-nes.nes.items in
    let first : Copied s a nes n.nes = subst (Copied s a nes) c.as_slice-3.ensures c.in_ok-nes.ensures.copied in
    let eqs = c.in-Ok.eqs.items in
    let second : Copied a b eqs n.eqs = subst (Copied a b eqs) c.as_slice-4.ensures c.in-Ok.ensures.copied in
    subst (AreHeld b) (sym c.deref-3.ensures.value) (opened.copies-held a b eqs n.eqs second)

pub all_held-requires-clause-room : goal.all_held-requires-clause-room
all_held-requires-clause-room g c =
    let s = g.S.TermStore.state c.args.s.now in
    let a = g.S.TermStore.state c.copy_all.new.s in
    let b = g.S.TermStore.state c.copy_all-2.new.s in
    let n = c.args.node.now in
    let nes = c.in_ok-nes.nes.items in
    let first : Copied s a nes n.nes = subst (Copied s a nes) c.as_slice-3.ensures c.in_ok-nes.ensures.copied in
    let eqs = c.in-Ok.eqs.items in
    let second : Copied a b eqs n.eqs = subst (Copied a b eqs) c.as_slice-4.ensures c.in-Ok.ensures.copied in
    let left = opened.copies-room s a nes n.nes first in
    let more = opened.copies-room a b eqs n.eqs second in
    let enough = c.requires.fuel in
    let most = c.requires.most in
    let room = c.requires.room in
    omega (arith, left, more, enough, most, room)

pub release_polys-requires-in-Err-all_held : goal.release_polys-requires-in-Err-all_held
release_polys-requires-in-Err-all_held g c =
    let s = g.S.TermStore.state c.args.s.now in
    let a = g.S.TermStore.state c.copy_all.new.s in
    let b = g.S.TermStore.state c.copy_all-2.new.s in
    let n = c.args.node.now in
    let nes = c.in_ok-nes.nes.items in
    let first : Copied s a nes n.nes = subst (Copied s a nes) c.as_slice-3.ensures c.in_ok-nes.ensures.copied in
    let eqs = c.in-Ok.eqs.items in
    let second : Copied a b eqs n.eqs = subst (Copied a b eqs) c.as_slice-4.ensures c.in-Ok.ensures.copied in
    let d = g.S.TermStore.state c.all_held.new.s in
    subst (λ l. AreLive d (map slot_of l)) (sym c.deref-in-Err-all_held.ensures.value) (copying.live-again a b d (map slot_of eqs) second.owns c.in-Err-all_held.ensures.kept)

pub release_polys-requires-in-Err-all_held-2 : goal.release_polys-requires-in-Err-all_held-2
release_polys-requires-in-Err-all_held-2 g c =
    let s = g.S.TermStore.state c.args.s.now in
    let a = g.S.TermStore.state c.copy_all.new.s in
    let b = g.S.TermStore.state c.copy_all-2.new.s in
    let n = c.args.node.now in
    let nes = c.in_ok-nes.nes.items in
    let first : Copied s a nes n.nes = subst (Copied s a nes) c.as_slice-3.ensures c.in_ok-nes.ensures.copied in
    let eqs = c.in-Ok.eqs.items in
    let second : Copied a b eqs n.eqs = subst (Copied a b eqs) c.as_slice-4.ensures c.in-Ok.ensures.copied in
    let d = g.S.TermStore.state c.all_held.new.s in
    let e = g.S.TermStore.state c.release_polys-in-Err-all_held.new.s in
    let kept : Keeps a e = copying.given-back a b d e (map slot_of eqs) second.owns c.in-Err-all_held.ensures.kept
    (subst (λ l. Keeps (without d (map slot_of l)) e) c.deref-in-Err-all_held.ensures.value c.release_polys-in-Err-all_held.ensures) in
    subst (λ l. AreLive e (map slot_of l)) (sym c.deref-in-Err-all_held-2.ensures.value) (copying.live-again s a e (map slot_of nes) first.owns kept)

pub returns-in-Err-all_held-clause-refused : goal.returns-in-Err-all_held-clause-refused
returns-in-Err-all_held-clause-refused g c =
    let s = g.S.TermStore.state c.args.s.now in
    let a = g.S.TermStore.state c.copy_all.new.s in
    let b = g.S.TermStore.state c.copy_all-2.new.s in
    let n = c.args.node.now in
    let nes = c.in_ok-nes.nes.items in
    let first : Copied s a nes n.nes = subst (Copied s a nes) c.as_slice-3.ensures c.in_ok-nes.ensures.copied in
    let eqs = c.in-Ok.eqs.items in
    let second : Copied a b eqs n.eqs = subst (Copied a b eqs) c.as_slice-4.ensures c.in-Ok.ensures.copied in
    let d = g.S.TermStore.state c.all_held.new.s in
    let e = g.S.TermStore.state c.release_polys-in-Err-all_held.new.s in
    let kept : Keeps a e = copying.given-back a b d e (map slot_of eqs) second.owns c.in-Err-all_held.ensures.kept
    (subst (λ l. Keeps (without d (map slot_of l)) e) c.deref-in-Err-all_held.ensures.value c.release_polys-in-Err-all_held.ensures) in
    let f = g.S.TermStore.state c.release_polys-in-Err-all_held-2.new.s in
    copying.given-back s a e f (map slot_of nes) first.owns kept
    (subst (λ l. Keeps (without e (map slot_of l)) f) c.deref-in-Err-all_held-2.ensures.value c.release_polys-in-Err-all_held-2.ensures)

pub returns-in-Ok-all_held-clause-opened : goal.returns-in-Ok-all_held-clause-opened
returns-in-Ok-all_held-clause-opened g c =
    let s = g.S.TermStore.state c.args.s.now in
    let a = g.S.TermStore.state c.copy_all.new.s in
    let b = g.S.TermStore.state c.copy_all-2.new.s in
    let n = c.args.node.now in
    let nes = c.in_ok-nes.nes.items in
    let first : Copied s a nes n.nes = subst (Copied s a nes) c.as_slice-3.ensures c.in_ok-nes.ensures.copied in
    let eqs = c.in-Ok.eqs.items in
    let second : Copied a b eqs n.eqs = subst (Copied a b eqs) c.as_slice-4.ensures c.in-Ok.ensures.copied in
    let d = g.S.TermStore.state c.all_held.new.s in
    let held = c.in-Ok-all_held.held in
    let size : 4 + c.sizes.result + c.sizes-2.result ≡ size_of n =
    (let x = c.sizes.ensures in let y = c.sizes-2.ensures in let p = ap sizes c.as_slice.ensures in let q = ap sizes c.as_slice-2.ensures in omega (arith, x, y, p, q)) in
    opened.opened s a b d record {
      path = n.path;
      eqs = held;
      nes = c.in_ok-nes.nes;
      fuel = n.fuel;
      size = 4 + c.sizes.result + c.sizes-2.result;
    } n eqs first second (c.in-Ok-all_held.ensures.polys ∙ c.deref-3.ensures.value)
    (subst (λ l. AllTell (map (polynomial_at b) l) held.items (map (held_at b) held.items)) c.deref-2.ensures.value c.in-Ok-all_held.ensures.tell)
    c.in-Ok-all_held.ensures.kept refl refl size c.requires.fuel c.requires.most

use Rattle.std.proofs.Common.{◌≡◌, ◌≢◌, ◌-◌, length, sym, subst, ap, arith, ◌∙◌}
use Rattle.term_store.specs.States.{IsLive}
use Rattle.term_store.proofs.Making as making
use Rattle.poly_model.specs.Standard.{polynomial_of}
use Rattle.poly_model.specs.Reduction.{is_constant, primitive_initial, primitive_tail}
use Rattle.proof_steps.specs.Rules.{size_of}
use Rattle.polynomials.specs.Held.{polynomial_at, slot_of}
use Rattle.workbench.specs.Standing.{node_at, held_at, AllTell}
use Rattle.workbench.specs.Splitting.{PartedBy}
use Rattle.std.specs.Prelude.{IfOk}
use Rattle.poly_model.specs.declared.limits.TheConstants.{MOST_LETTERS}
use Rattle.proof_steps.specs.declared.piece.Node.{Node}
use Rattle.workbench.proofs.Owning as owning
use Rattle.workbench.proofs.Owning.{Within}
use Rattle.workbench.proofs.Benches as benches
use Rattle.workbench.proofs.Choice as choice
use Rattle.workbench.proofs.Tried as tried
use Rattle.workbench.proofs.splitting.split.Goals as goal

pub primitive_initial-initial-requires-clause-p : goal.primitive_initial-initial-requires-clause-p
primitive_initial-initial-requires-clause-p g c =
    benches.equation-poly _ _ _ c.args.bench.now _ c.index.result.now c.requires.stands (tried.split-place c.args.version (g.S.TermStore.state c.args.s.now) c.args.bench.now c.args.f c.requires.valid) c.index.ensures

pub primitive_initial-initial-requires-clause-room : goal.primitive_initial-initial-requires-clause-room
primitive_initial-initial-requires-clause-room g c = let e = benches.room-left _ _ c.args.bench.now c.requires.stands in let r = c.requires.room in omega (arith, e, r)

pub primitive_tail-tail-requires-clause-p : goal.primitive_tail-tail-requires-clause-p
primitive_tail-tail-requires-clause-p g c =
    benches.poly-within (g.S.TermStore.state c.args.s.now) (g.S.TermStore.state c.primitive_initial-initial.new.s) c.index.result.now.poly (owning.within-makes _ _ _ c.primitive_initial-initial.ensures.makes)
    (benches.equation-poly _ _ _ c.args.bench.now _ c.index.result.now c.requires.stands (tried.split-place c.args.version (g.S.TermStore.state c.args.s.now) c.args.bench.now c.args.f c.requires.valid) c.index.ensures)

pub primitive_tail-tail-requires-clause-class : goal.primitive_tail-tail-requires-clause-class
primitive_tail-tail-requires-clause-class g c =
    let s = g.S.TermStore.state c.args.s.now in
    let b = c.args.bench.now in
    let x = c.index.result.now in
    let one = owning.within-makes s (g.S.TermStore.state c.primitive_initial-initial.new.s) _ c.primitive_initial-initial.ensures.makes in
    let place = tried.split-place c.args.version s b c.args.f c.requires.valid in
    let there = benches.live-place s b.eqs.items _ (c.args.f - 1) x (benches.bench-live _ s _ b c.requires.stands) place c.index.ensures in
    ap (λ l. is_constant (polynomial_of l)) (one (slot_of x.poly) there).1 ∙ tried.split-class c.args.version s b c.args.f x c.requires.valid place c.index.ensures

pub primitive_tail-tail-requires-clause-room : goal.primitive_tail-tail-requires-clause-room
primitive_tail-tail-requires-clause-room g c =
    let e = benches.room-left _ _ c.args.bench.now c.requires.stands in
    let r = c.requires.room in
    let m = benches.gives-room _ (g.S.TermStore.state c.primitive_initial-initial.new.s) _ _ c.primitive_initial-initial.ensures in
    omega (arith, e, r, m)

pub children-parting-requires-clause-eqs : goal.children-parting-requires-clause-eqs
children-parting-requires-clause-eqs g c =
    let s = g.S.TermStore.state c.args.s.now in
    let t = g.S.TermStore.state c.primitive_initial-initial.new.s in
    let u = g.S.TermStore.state c.primitive_tail-tail.new.s in
    let w = owning.within-then s t u (owning.within-makes s t _ c.primitive_initial-initial.ensures.makes) (owning.within-makes t u _ c.primitive_tail-tail.ensures.makes) in
    choice.found-within s u c.args.bench.now.eqs.items w (choice.found-all _ s _ c.args.bench.now c.requires.stands)

pub children-parting-requires-clause-nes : goal.children-parting-requires-clause-nes
children-parting-requires-clause-nes g c =
    let s = g.S.TermStore.state c.args.s.now in
    let t = g.S.TermStore.state c.primitive_initial-initial.new.s in
    let u = g.S.TermStore.state c.primitive_tail-tail.new.s in
    let w = owning.within-then s t u (owning.within-makes s t _ c.primitive_initial-initial.ensures.makes) (owning.within-makes t u _ c.primitive_tail-tail.ensures.makes) in
    benches.held-within s u c.args.bench.now.nes.items w (benches.conditions-held _ s _ c.args.bench.now c.requires.stands)

pub children-parting-requires-clause-j : goal.children-parting-requires-clause-j
children-parting-requires-clause-j g c =
    benches.poly-within (g.S.TermStore.state c.primitive_initial-initial.new.s) (g.S.TermStore.state c.primitive_tail-tail.new.s) c.primitive_initial-initial.result (owning.within-makes _ _ _ c.primitive_tail-tail.ensures.makes) (benches.gives-poly _ _ _ _ c.primitive_initial-initial.ensures)

pub children-parting-requires-clause-r : goal.children-parting-requires-clause-r
children-parting-requires-clause-r g c = benches.gives-poly _ _ _ _ c.primitive_tail-tail.ensures

pub children-parting-requires-clause-tell : goal.children-parting-requires-clause-tell
children-parting-requires-clause-tell g c =
    let s = g.S.TermStore.state c.args.s.now in
    let t = g.S.TermStore.state c.primitive_initial-initial.new.s in
    let u = g.S.TermStore.state c.primitive_tail-tail.new.s in
    let b = c.args.bench.now in
    let w = owning.within-then s t u (owning.within-makes s t _ c.primitive_initial-initial.ensures.makes) (owning.within-makes t u _ c.primitive_tail-tail.ensures.makes) in
    let node = benches.node-within s u b w (benches.bench-live _ s _ b c.requires.stands) in
    subst (λ (n : Node). AllTell n.nes b.eqs.items n.eqs) (sym node) c.requires.stands.tell

pub children-parting-requires-clause-size : goal.children-parting-requires-clause-size
children-parting-requires-clause-size g c =
    let s = g.S.TermStore.state c.args.s.now in
    let t = g.S.TermStore.state c.primitive_initial-initial.new.s in
    let u = g.S.TermStore.state c.primitive_tail-tail.new.s in
    let b = c.args.bench.now in
    let w = owning.within-then s t u (owning.within-makes s t _ c.primitive_initial-initial.ensures.makes) (owning.within-makes t u _ c.primitive_tail-tail.ensures.makes) in
    let node = benches.node-within s u b w (benches.bench-live _ s _ b c.requires.stands) in
    c.requires.stands.size ∙ ap size_of (sym node)

pub give_up-requires : goal.give_up-requires
give_up-requires g c = making.makes-live _ _ _ c.primitive_tail-tail.ensures.makes

pub give_up-requires-2 : goal.give_up-requires-2
give_up-requires-2 g c =
    let k = making.makes-freed _ (g.S.TermStore.state c.primitive_tail-tail.new.s) (g.S.TermStore.state c.give_up.new.s) _ c.primitive_tail-tail.ensures.makes c.give_up.ensures.lists c.give_up.ensures.spare in
    subst (λ m. IsLive m (slot_of c.primitive_initial-initial.result)) (sym k.lists) (making.makes-live _ _ _ c.primitive_initial-initial.ensures.makes)

pub returns-clause-kept : goal.returns-clause-kept
returns-clause-kept g c =
    let k = making.makes-freed _ (g.S.TermStore.state c.primitive_tail-tail.new.s) (g.S.TermStore.state c.give_up.new.s) _ c.primitive_tail-tail.ensures.makes c.give_up.ensures.lists c.give_up.ensures.spare in
    making.keeps-freed _ (g.S.TermStore.state c.primitive_initial-initial.new.s) (g.S.TermStore.state c.give_up.new.s) _ _ c.primitive_initial-initial.ensures.makes k c.give_up-2.ensures.lists c.give_up-2.ensures.spare

pub returns-clause-parts : goal.returns-clause-parts
returns-clause-parts g c =
    let s = g.S.TermStore.state c.args.s.now in
    let t = g.S.TermStore.state c.primitive_initial-initial.new.s in
    let u = g.S.TermStore.state c.primitive_tail-tail.new.s in
    let b = c.args.bench.now in
    let x = c.index.result.now in
    let one = owning.within-makes s t _ c.primitive_initial-initial.ensures.makes in
    let two = owning.within-makes t u _ c.primitive_tail-tail.ensures.makes in
    let live = benches.bench-live _ s _ b c.requires.stands in
    let node = benches.node-within s u b (owning.within-then s t u one two) live in
    let place = tried.split-place c.args.version s b c.args.f c.requires.valid in
    let here = benches.equation-at s b.eqs.items (c.args.f - 1) x place c.index.ensures in
    let there = benches.live-place s b.eqs.items _ (c.args.f - 1) x live place c.index.ensures in
    let j : polynomial_at u c.primitive_initial-initial.result ≡ primitive_initial (held_at s x) =
    ap polynomial_of (two (slot_of c.primitive_initial-initial.result) (making.makes-live s t _ c.primitive_initial-initial.ensures.makes)).1 ∙ c.primitive_initial-initial.ensures.value in
    let r : polynomial_at u c.primitive_tail-tail.result ≡ primitive_tail (held_at s x) = c.primitive_tail-tail.ensures.value ∙ ap (λ l. primitive_tail (polynomial_of l)) (one (slot_of x.poly) there).1 in
    let deep : length b.path ≢ MOST_LETTERS = λ e. c.if-len-eq-MOST_LETTERS.false (c.len.ensures.len ∙ e) in
    tried.split-parts c.args.version (node_at s b) c.args.f (polynomial_at u c.primitive_initial-initial.result) (polynomial_at u c.primitive_tail-tail.result) c.children-parting.result (j ∙ ap primitive_initial here) (r ∙ ap primitive_tail here) deep
    (subst (λ n. IfOk c.children-parting.result (λ p. PartedBy n (c.args.f - 1) (polynomial_at u c.primitive_initial-initial.result) (polynomial_at u c.primitive_tail-tail.result) p)) node c.children-parting.ensures)

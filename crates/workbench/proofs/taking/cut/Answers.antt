use Rattle.std.proofs.Common.{◌-◌, ◌∷◌, subst, ap, arith, ◌∙◌, true, false}
use Rattle.term_store.proofs.Making as making
use Rattle.polynomials.specs.Held.{polynomial_at, slot_of}
use Rattle.poly_model.specs.Reduction.{primitive_tail}
use Rattle.workbench.specs.Standing.{node_at, put_at, Settled, beneath, slots_of}
use Rattle.workbench.specs.Owned.{without}
use Rattle.workbench.proofs.Benches as benches
use Rattle.workbench.proofs.Tried as tried
use Rattle.workbench.proofs.taking.cut.Goals as goal

pub primitive_tail-r-requires-clause-p : goal.primitive_tail-r-requires-clause-p
primitive_tail-r-requires-clause-p g c =
    benches.equation-poly _ _ _ c.args.bench.now _ c.index.result.now c.requires.stands (tried.tail-place c.args.version (g.S.TermStore.state c.args.s.now) c.args.bench.now c.args.f c.requires.valid) c.index.ensures

pub primitive_tail-r-requires-clause-room : goal.primitive_tail-r-requires-clause-room
primitive_tail-r-requires-clause-room g c = let e = benches.room-left _ _ c.args.bench.now c.requires.stands in let r = c.requires.room in omega (arith, e, r)

pub settle-requires-clause-stands : goal.settle-requires-clause-stands
settle-requires-clause-stands g c = (benches.beside _ _ _ c.args.bench.now _ c.requires.stands c.primitive_tail-r.ensures.makes).stands

pub settle-requires-clause-room : goal.settle-requires-clause-room
settle-requires-clause-room g c =
    let e = benches.room-left _ _ c.args.bench.now c.requires.stands in
    let r = c.requires.room in
    let m = benches.gives-room _ (g.S.TermStore.state c.primitive_tail-r.new.s) _ _ c.primitive_tail-r.ensures in
    omega (arith, e, r, m)

pub returns-then-settle : goal.returns-then-settle
returns-then-settle g c =
    let s = g.S.TermStore.state c.args.s.now in
    let t = g.S.TermStore.state c.primitive_tail-r.new.s in
    let u = g.S.TermStore.state c.settle.new.s in
    let b = c.args.bench.now in
    let k = c.settle.new.bench in
    let r = c.primitive_tail-r.result in
    let p = primitive_tail (polynomial_at s c.index.result.now.poly) in
    let is = ap primitive_tail (benches.equation-at s b.eqs.items (c.args.f - 1) c.index.result.now (tried.tail-place c.args.version s b c.args.f c.requires.valid) c.index.ensures) in
    let put = benches.settled (beneath s b) s t u b k r p (c.args.f - 1) true c.requires.stands c.primitive_tail-r.ensures.makes c.primitive_tail-r.ensures.value
    (subst (λ z. Settled (without t (slot_of r ∷ slots_of b)) u k z (node_at t b) (put_at (node_at t b) (c.args.f - 1) (polynomial_at t r))) c.if-settle.true c.settle.ensures) in
    tried.tail-put c.args.version (beneath s b) u k (node_at s b) c.args.f p is put

pub returns-else-settle : goal.returns-else-settle
returns-else-settle g c =
    let s = g.S.TermStore.state c.args.s.now in
    let t = g.S.TermStore.state c.primitive_tail-r.new.s in
    let u = g.S.TermStore.state c.settle.new.s in
    let b = c.args.bench.now in
    let k = c.settle.new.bench in
    let r = c.primitive_tail-r.result in
    let p = primitive_tail (polynomial_at s c.index.result.now.poly) in
    let is = ap primitive_tail (benches.equation-at s b.eqs.items (c.args.f - 1) c.index.result.now (tried.tail-place c.args.version s b c.args.f c.requires.valid) c.index.ensures) in
    let put = benches.settled (beneath s b) s t u b k r p (c.args.f - 1) false c.requires.stands c.primitive_tail-r.ensures.makes c.primitive_tail-r.ensures.value
    (subst (λ z. Settled (without t (slot_of r ∷ slots_of b)) u k z (node_at t b) (put_at (node_at t b) (c.args.f - 1) (polynomial_at t r))) c.if-settle.false c.settle.ensures) in
    tried.tail-short c.args.version (beneath s b) u k (node_at s b) c.args.f p is put

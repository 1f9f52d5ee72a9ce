use Rattle.std.proofs.Common.{◌-◌, ◌∷◌, sym, subst, ap, arith, ◌∙◌, true, false}
use Rattle.std.specs.Prelude.{Ok}
use Rattle.std.specs.Prelude.{Some}
use mir.Syntax.{w128}
use Rattle.std.proofs.lemmas.Int.{ints, to_z-of_z}
use mir.Val.{SFits}
use Rattle.term_store.proofs.Making as making
use Rattle.polynomials.specs.Held.{polynomial_at, slot_of}
use Rattle.workbench.specs.Standing.{node_at, put_at, Settled, beneath, slots_of}
use Rattle.workbench.specs.Owned.{without}
use Rattle.workbench.proofs.Benches as benches
use Rattle.workbench.proofs.Tried as taking
use Rattle.workbench.proofs.taking.reduce.Goals as goal

pub red_step-requires-clause-g : goal.red_step-requires-clause-g
red_step-requires-clause-g g c =
    let v = taking.red-places c.args.version (g.S.TermStore.state c.args.s.now) c.args.bench.now c.args.g c.args.f c.requires.valid in
    benches.equation-poly _ _ _ c.args.bench.now _ c.index.result.now c.requires.stands v.0 c.index.ensures

pub red_step-requires-clause-f : goal.red_step-requires-clause-f
red_step-requires-clause-f g c =
    let v = taking.red-places c.args.version (g.S.TermStore.state c.args.s.now) c.args.bench.now c.args.g c.args.f c.requires.valid in
    benches.equation-poly _ _ _ c.args.bench.now _ c.index-by.result.now c.requires.stands v.1 c.index-by.ensures

pub overflow_sub-by : goal.overflow_sub-by
overflow_sub-by g c = (taking.red-place c.args.version _ (g.S.TermStore.state c.args.s.now) c.args.bench.now c.args.g c.args.f c.index-by.result.now c.requires.stands c.requires.valid c.index-by.ensures).0

pub red_step-requires-clause-class : goal.red_step-requires-clause-class
red_step-requires-clause-class g c = (taking.red-place c.args.version _ (g.S.TermStore.state c.args.s.now) c.args.bench.now c.args.g c.args.f c.index-by.result.now c.requires.stands c.requires.valid c.index-by.ensures).1

pub red_step-requires-clause-reaches : goal.red_step-requires-clause-reaches
red_step-requires-clause-reaches g c =
    taking.red-reaches c.args.version (g.S.TermStore.state c.args.s.now) c.args.bench.now c.args.g c.args.f c.index.result.now c.index-by.result.now c.requires.valid c.index.ensures c.index-by.ensures

pub red_step-requires-clause-room : goal.red_step-requires-clause-room
red_step-requires-clause-room g c = let e = benches.room-left _ _ c.args.bench.now c.requires.stands in let r = c.requires.room in omega (arith, e, r)

pub returns-in-Err : goal.returns-in-Err
returns-in-Err g c =
    let s = g.S.TermStore.state c.args.s.now in
    let x = taking.reduces-err _ _ _ _ c.in-Err.ensures.answer in (
      taking.red-limit c.args.version (node_at s c.args.bench.now) c.args.g c.args.f c.in-Err.limit
          (taking.red-whole c.args.version s c.args.bench.now c.args.g c.args.f c.index.result.now c.index-by.result.now _ c.requires.valid c.index.ensures c.index-by.ensures x.0)
          ∙ ap Some (sym c.reason.ensures),
      benches.kept _ _ _ c.args.bench.now c.requires.stands x.1,
    )

pub settle-requires-clause-stands : goal.settle-requires-clause-stands
settle-requires-clause-stands g c = (benches.beside _ _ _ c.args.bench.now _ c.requires.stands (taking.reduces-ok _ _ _ _ c.in-Ok.ensures.answer).gives.makes).stands

pub settle-requires-clause-room : goal.settle-requires-clause-room
settle-requires-clause-room g c =
    let e = benches.room-left _ _ c.args.bench.now c.requires.stands in
    let r = c.requires.room in
    let m = benches.gives-room _ (g.S.TermStore.state c.red_step.new.s) _ _ (taking.reduces-ok _ _ _ _ c.in-Ok.ensures.answer).gives in
    omega (arith, e, r, m)

pub returns-then-settle : goal.returns-then-settle
returns-then-settle g c =
    let s = g.S.TermStore.state c.args.s.now in
    let t = g.S.TermStore.state c.red_step.new.s in
    let u = g.S.TermStore.state c.settle.new.s in
    let b = c.args.bench.now in
    let k = c.settle.new.bench in
    let r = c.in-Ok.reduced in
    let x = taking.reduces-ok s t r _ c.in-Ok.ensures.answer in
    let whole = taking.red-whole c.args.version s b c.args.g c.args.f c.index.result.now c.index-by.result.now (Ok x.value) c.requires.valid c.index.ensures c.index-by.ensures x.is in
    let base = beneath s b in
    let put = benches.settled base s t u b k r.1 x.value.1 (c.args.g - 1) true c.requires.stands x.gives.makes x.gives.value
    (subst (λ z. Settled (without t (slot_of r.1 ∷ slots_of b)) u k z (node_at t b) (put_at (node_at t b) (c.args.g - 1) (polynomial_at t r.1))) c.if-settle.true c.settle.ensures) in
    let fits : SFits w128 r.0 = (let z = c.in-Ok.ensures.size in omega (arith, ints, z)) in
    taking.red-put c.args.version base u k (node_at s b) c.args.g c.args.f x.value _ whole (taking.red-is c.args.version base s b c.args.g c.args.f x.value c.requires.stands c.requires.valid whole) (to_z-of_z w128 r.0 fits ∙ x.number) put

pub returns-else-settle : goal.returns-else-settle
returns-else-settle g c =
    let s = g.S.TermStore.state c.args.s.now in
    let t = g.S.TermStore.state c.red_step.new.s in
    let u = g.S.TermStore.state c.settle.new.s in
    let b = c.args.bench.now in
    let k = c.settle.new.bench in
    let r = c.in-Ok.reduced in
    let x = taking.reduces-ok s t r _ c.in-Ok.ensures.answer in
    let whole = taking.red-whole c.args.version s b c.args.g c.args.f c.index.result.now c.index-by.result.now (Ok x.value) c.requires.valid c.index.ensures c.index-by.ensures x.is in
    let base = beneath s b in
    let put = benches.settled base s t u b k r.1 x.value.1 (c.args.g - 1) false c.requires.stands x.gives.makes x.gives.value
    (subst (λ z. Settled (without t (slot_of r.1 ∷ slots_of b)) u k z (node_at t b) (put_at (node_at t b) (c.args.g - 1) (polynomial_at t r.1))) c.if-settle.false c.settle.ensures) in
    taking.red-short c.args.version base u k (node_at s b) c.args.g c.args.f x.value whole (taking.red-is c.args.version base s b c.args.g c.args.f x.value c.requires.stands c.requires.valid whole) put

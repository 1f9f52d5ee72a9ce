use Rattle.std.proofs.Common.{◌-◌, ◌≤◌, ◌∙◌, ap, subst, arith}
use Rattle.std.specs.Prelude.{Ok}
use Rattle.poly_model.specs.Reduction.{degree_at, coefficient_at, shifted}
use Rattle.poly_model.specs.Bounded.{bounded_shift}
use Rattle.term_store.proofs.Making as making
use Rattle.polynomials.specs.Held.{Answers, Gives, slot_of, polynomial_at}
use Rattle.polynomials.proofs.Results as results
use Rattle.pseudo_div.proofs.Reducing as reducing
use Rattle.pseudo_div.proofs.step.factor.Goals as goal

pub degree-high-requires-clause-var : goal.degree-high-requires-clause-var
degree-high-requires-clause-var g c = let b = reducing.place-below _ c.args.var c.requires.f.standard c.requires.class in omega (arith, b)

pub degree-low-requires-clause-var : goal.degree-low-requires-clause-var
degree-low-requires-clause-var g c = let b = reducing.place-below _ c.args.var c.requires.f.standard c.requires.class in omega (arith, b)

pub coefficient-beside-requires-clause-var : goal.coefficient-beside-requires-clause-var
coefficient-beside-requires-clause-var g c = let b = reducing.place-below _ c.args.var c.requires.f.standard c.requires.class in omega (arith, b)

pub shift-requires-clause-a : goal.shift-requires-clause-a
shift-requires-clause-a g c = results.made-poly _ _ _ _ c.coefficient-beside.ensures

pub shift-requires-clause-var : goal.shift-requires-clause-var
shift-requires-clause-var g c = let b = reducing.place-below _ c.args.var c.requires.f.standard c.requires.class in omega (arith, b)

pub free-requires : goal.free-requires
free-requires g c =
    results.live-at _ _ _ c.slot.ensures
    (results.answers-live _ _ (slot_of c.coefficient-beside.result) _ _ c.shift.ensures (making.makes-live _ _ _ c.coefficient-beside.ensures.makes))

pub unreachable-requires : goal.unreachable-requires
unreachable-requires g c =
    let s = g.S.TermStore.state c.args.s.now in
    let t = g.S.TermStore.state c.coefficient-beside.new.s in
    let u = g.S.TermStore.state c.shift.new.s in
    let G = polynomial_at s c.args.g in
    let k = c.degree-high.result - c.degree-low.result in
    let part = coefficient_at c.args.var c.degree-high.result G in
    let le : k ≤ degree_at c.args.var G = omega (arith, c.degree-high.ensures) in
    let whole = ap (bounded_shift c.args.var k) c.coefficient-beside.ensures.value ∙ reducing.shift-fits c.args.var c.degree-high.result k G c.requires.g.standard le in
    let met = results.answers-limited t u c.in-Err.field-0 (bounded_shift c.args.var k (polynomial_at t c.coefficient-beside.result))
    (subst (λ r. Answers t u r (bounded_shift c.args.var k (polynomial_at t c.coefficient-beside.result))) c.in-Err.is c.shift.ensures) in
    reducing.not-both _ (shifted c.args.var k part) c.in-Err.field-0 whole met.0

pub returns : goal.returns
returns g c =
    let s = g.S.TermStore.state c.args.s.now in
    let t = g.S.TermStore.state c.coefficient-beside.new.s in
    let u = g.S.TermStore.state c.shift.new.s in
    let v = g.S.TermStore.state c.free.new.self in
    let G = polynomial_at s c.args.g in
    let F = polynomial_at s c.args.f in
    let k = c.degree-high.result - c.degree-low.result in
    let part = coefficient_at c.args.var c.degree-high.result G in
    let le : k ≤ degree_at c.args.var G = omega (arith, c.degree-high.ensures) in
    let whole = ap (bounded_shift c.args.var k) c.coefficient-beside.ensures.value ∙ reducing.shift-fits c.args.var c.degree-high.result k G c.requires.g.standard le in
    let outcome = subst (Answers t u (Ok c.in-Ok.raised)) whole
    (subst (λ r. Answers t u r (bounded_shift c.args.var k (polynomial_at t c.coefficient-beside.result))) c.in-Ok.is c.shift.ensures) in
    let is = (λ i. shifted c.args.var (c.degree-high.ensures i - c.degree-low.ensures i) (coefficient_at c.args.var (c.degree-high.ensures i) G)) ∙ reducing.factor-at G F c.args.var c.requires.class in
    let freed = results.freed u v _ _ c.slot.ensures c.free.ensures.lists c.free.ensures.spare in
    subst (Gives s v c.in-Ok.raised) is (results.gives-freed s t u v c.coefficient-beside.result c.in-Ok.raised (shifted c.args.var k part) c.coefficient-beside.ensures.makes outcome freed)

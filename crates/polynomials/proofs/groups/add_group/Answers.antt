use Rattle.std.proofs.Common.{◌≡◌, ◌≤◌, ◌+◌, ◌*◌, length, sym, ◌∙◌, ap, subst, arith}
use Rattle.poly_model.specs.Polynomial.{IsDescending, poly_sum}
use Rattle.poly_model.specs.Standard.{polynomial_of, are_bounded}
use Rattle.poly_model.specs.declared.limits.TheConstants.{MOST_VARIABLES, MOST_TERMS}
use Rattle.poly_model.proofs.Ordered.{descending-product}
use Rattle.poly_model.proofs.Within.{within-of}
use Rattle.term_store.specs.States.{IsLive, list_at}
use Rattle.term_store.proofs.Making as making
use Rattle.polynomials.specs.Held.{polynomial_at, slot_of}
use Rattle.polynomials.specs.Sizes.{part_of}
use Rattle.polynomials.proofs.Steps as steps
use Rattle.polynomials.proofs.Halving as halving
use Rattle.polynomials.proofs.Unlimited.{bounded-sizes}
use Rattle.polynomials.proofs.RowGroups as groups
use Rattle.polynomials.proofs.groups.add_group.Goals as goal

pub group_of-group-requires-clause-sizes : goal.group_of-group-requires-clause-sizes
group_of-group-requires-clause-sizes g c =
    omega (arith, c.requires.sizes)

pub group_of-group-requires-clause-terms : goal.group_of-group-requires-clause-terms
group_of-group-requires-clause-terms g c =
    let s = g.S.TermStore.state c.args.s.now in
    let long = steps.polynomial-length (list_at s.lists (slot_of c.args.b)) in
    subst (λ n. c.args.rows * n ≤ MOST_TERMS) (sym long) (omega (arith, c.requires.terms))

pub merge-requires-clause-live_a : goal.merge-requires-clause-live_a
merge-requires-clause-live_a g c =
    let s = g.S.TermStore.state c.args.s.now in
    let xs = list_at s.lists (slot_of c.args.a) in
    let q = polynomial_at s c.args.b in
    let t = g.S.TermStore.state c.group_of-group.new.s in
    let made = c.group_of-group.ensures.made in
    making.makes-live s t _ made

pub merge-requires-clause-live_b : goal.merge-requires-clause-live_b
merge-requires-clause-live_b g c =
    let s = g.S.TermStore.state c.args.s.now in
    let xs = list_at s.lists (slot_of c.args.a) in
    let q = polynomial_at s c.args.b in
    let t = g.S.TermStore.state c.group_of-group.new.s in
    let made = c.group_of-group.ensures.made in
    making.makes-other-live s t _ _ made c.requires.live

pub merge-requires-clause-descending_a : goal.merge-requires-clause-descending_a
merge-requires-clause-descending_a g c =
    let s = g.S.TermStore.state c.args.s.now in
    let xs = list_at s.lists (slot_of c.args.a) in
    let q = polynomial_at s c.args.b in
    let wa = within-of (polynomial_at s c.args.a) c.requires.a.standard in
    let wb = within-of q c.requires.b.standard in
    let part = part_of xs c.args.from c.args.rows in
    subst (IsDescending MOST_VARIABLES) (sym c.group_of-group.ensures.value)
    (descending-product MOST_VARIABLES part q (halving.part-descending MOST_VARIABLES c.args.from c.args.rows xs wa.descending) wb.descending)

pub merge-requires-clause-descending_b : goal.merge-requires-clause-descending_b
merge-requires-clause-descending_b g c =
    let s = g.S.TermStore.state c.args.s.now in
    let xs = list_at s.lists (slot_of c.args.a) in
    let q = polynomial_at s c.args.b in
    let t = g.S.TermStore.state c.group_of-group.new.s in
    let made = c.group_of-group.ensures.made in
    let kept = making.makes-other s t _ _ made c.requires.live in
    subst (λ l. IsDescending MOST_VARIABLES (polynomial_of l)) (sym kept) c.requires.descending

pub merge-requires-clause-bounded_a : goal.merge-requires-clause-bounded_a
merge-requires-clause-bounded_a g c =
    let s = g.S.TermStore.state c.args.s.now in
    let xs = list_at s.lists (slot_of c.args.a) in
    let q = polynomial_at s c.args.b in
    let part = part_of xs c.args.from c.args.rows in
    ap are_bounded c.group_of-group.ensures.value ∙ halving.product-bounded part q (omega (arith, c.requires.sizes))

pub merge-requires-clause-bounded_b : goal.merge-requires-clause-bounded_b
merge-requires-clause-bounded_b g c =
    let s = g.S.TermStore.state c.args.s.now in
    let xs = list_at s.lists (slot_of c.args.a) in
    let q = polynomial_at s c.args.b in
    let t = g.S.TermStore.state c.group_of-group.new.s in
    let made = c.group_of-group.ensures.made in
    let kept = making.makes-other s t _ _ made c.requires.live in
    ap (λ l. are_bounded (polynomial_of l)) kept
    ∙ bounded-sizes (polynomial_of (list_at s.lists c.args.sum.0)) (omega (arith, c.requires.sizes))

pub merge-requires-clause-room : goal.merge-requires-clause-room
merge-requires-clause-room g c =
    let s = g.S.TermStore.state c.args.s.now in
    let xs = list_at s.lists (slot_of c.args.a) in
    let q = polynomial_at s c.args.b in
    let long = steps.polynomial-length (list_at s.lists (slot_of c.args.b)) in
    let t = g.S.TermStore.state c.group_of-group.new.s in
    let made = c.group_of-group.ensures.made in
    let kept = making.makes-other s t _ _ made c.requires.live in
    let few = halving.product-few xs (list_at t.lists c.group_of-group.result.0) q c.args.from c.args.rows c.requires.within c.group_of-group.ensures.value in
    let fewer = subst (λ n. length (list_at t.lists c.group_of-group.result.0) ≤ c.args.rows * n) long few in
    omega (arith, fewer, ap length kept, made.spare, c.requires.terms, c.requires.room)

pub unreachable-requires : goal.unreachable-requires
unreachable-requires g c =
    let s = g.S.TermStore.state c.args.s.now in
    let xs = list_at s.lists (slot_of c.args.a) in
    let q = polynomial_at s c.args.b in
    let part = part_of xs c.args.from c.args.rows in
    let t = g.S.TermStore.state c.group_of-group.new.s in
    let made = c.group_of-group.ensures.made in
    let kept = making.makes-other s t _ _ made c.requires.live in
    let sum = polynomial_of (list_at s.lists c.args.sum.0) in
    halving.clash _ ((λ i. are_bounded (poly_sum (c.group_of-group.ensures.value i) (polynomial_of (kept i)))) ∙ groups.group-bounded part q sum c.requires.sizes)
    c.in-None.ensures.passes

pub free-requires : goal.free-requires
free-requires g c =
    let s = g.S.TermStore.state c.args.s.now in
    let xs = list_at s.lists (slot_of c.args.a) in
    let q = polynomial_at s c.args.b in
    let t = g.S.TermStore.state c.group_of-group.new.s in
    let made = c.group_of-group.ensures.made in
    making.makes-other-live _ _ _ _ c.in-Some.ensures.made (making.makes-live s t _ made)

pub free-requires-2 : goal.free-requires-2
free-requires-2 g c =
    let s = g.S.TermStore.state c.args.s.now in
    let xs = list_at s.lists (slot_of c.args.a) in
    let q = polynomial_at s c.args.b in
    let t = g.S.TermStore.state c.group_of-group.new.s in
    let made = c.group_of-group.ensures.made in
    let u = g.S.TermStore.state c.merge.new.s in
    let live = making.makes-other-live t u _ _ c.in-Some.ensures.made (making.makes-other-live s t _ _ made c.requires.live) in
    subst (λ l. IsLive l c.args.sum.0) (sym c.free.ensures.lists) (making.live-removed u.lists _ _ (making.makes-apart s t _ _ made c.requires.live) live)

pub returns-clause-made : goal.returns-clause-made
returns-clause-made g c =
    let s = g.S.TermStore.state c.args.s.now in
    let xs = list_at s.lists (slot_of c.args.a) in
    let q = polynomial_at s c.args.b in
    let t = g.S.TermStore.state c.group_of-group.new.s in
    let made = c.group_of-group.ensures.made in
    let u = g.S.TermStore.state c.merge.new.s in
    let v = g.S.TermStore.state c.free.new.self in
    let w = g.S.TermStore.state c.free-2.new.self in
    let inner = making.makes-swapped s t u v _ _ made c.in-Some.ensures.made c.free.ensures.lists c.free.ensures.spare in
    let outer = making.makes-given_up s v w _ _ inner c.requires.live c.free-2.ensures.lists c.free-2.ensures.spare in
    outer.0

pub returns-clause-value : goal.returns-clause-value
returns-clause-value g c =
    let s = g.S.TermStore.state c.args.s.now in
    let xs = list_at s.lists (slot_of c.args.a) in
    let q = polynomial_at s c.args.b in
    let t = g.S.TermStore.state c.group_of-group.new.s in
    let made = c.group_of-group.ensures.made in
    let kept = making.makes-other s t _ _ made c.requires.live in
    let u = g.S.TermStore.state c.merge.new.s in
    let v = g.S.TermStore.state c.free.new.self in
    let w = g.S.TermStore.state c.free-2.new.self in
    let inner = making.makes-swapped s t u v _ _ made c.in-Some.ensures.made c.free.ensures.lists c.free.ensures.spare in
    let outer = making.makes-given_up s v w _ _ inner c.requires.live c.free-2.ensures.lists c.free-2.ensures.spare in
    ap polynomial_of (outer.1 ∙ making.makes-swapped-at s t u v _ _ made c.in-Some.ensures.made c.free.ensures.lists) ∙ c.in-Some.ensures.value
    ∙ (λ i. poly_sum (c.group_of-group.ensures.value i) (polynomial_of (kept i)))

use Rattle.std.proofs.Common.{◌≡◌, ◌≤◌, ◌<◌, ◌+◌, ◌*◌, ◌-◌, ◌/◌, length, sym, ◌∙◌, ap, subst, arith}
use Rattle.poly_model.specs.Polynomial.{IsDescending, poly_sum, poly_product}
use Rattle.poly_model.specs.Standard.{polynomial_of, are_bounded}
use Rattle.poly_model.specs.declared.limits.TheConstants.{MOST_VARIABLES, MOST_SIZE}
use Rattle.poly_model.proofs.Ordered.{descending-product}
use Rattle.poly_model.proofs.Within.{within-of}
use Rattle.term_store.specs.States.{IsLive, list_at}
use Rattle.term_store.proofs.Making as making
use Rattle.polynomials.specs.Held.{polynomial_at, slot_of}
use Rattle.polynomials.specs.Sizes.{sizes_of, part_of}
use Rattle.polynomials.proofs.Steps as steps
use Rattle.polynomials.proofs.Results as results
use Rattle.polynomials.proofs.Halving as halving
use Rattle.polynomials.proofs.halves.+by_halves.Goals as goal

pub multiple-requires-clause-coef : goal.multiple-requires-clause-coef
multiple-requires-clause-coef g t c =
    let s = g.S.TermStore.state c.args.s.now in
    let xs = list_at s.lists (slot_of c.args.a) in
    let q = polynomial_at s c.args.b in
    let wa = within-of (polynomial_at s c.args.a) c.requires.a.standard in
    let wb = within-of q c.requires.b.standard in
    let at = c.get-factor.ensures in
    let below : c.args.from < length xs = omega (arith, c.requires.within, c.requires.some) in
    steps.bounded-at xs c.args.from c.get-factor.result below at wa.bounded

pub multiple-requires-clause-low : goal.multiple-requires-clause-low
multiple-requires-clause-low g t c =
    let s = g.S.TermStore.state c.args.s.now in
    let xs = list_at s.lists (slot_of c.args.a) in
    let q = polynomial_at s c.args.b in
    let wa = within-of (polynomial_at s c.args.a) c.requires.a.standard in
    let wb = within-of q c.requires.b.standard in
    let at = c.get-factor.ensures in
    let below : c.args.from < length xs = omega (arith, c.requires.within, c.requires.some) in
    steps.lows-at xs c.args.from c.get-factor.result below at wa.low

pub multiple-requires-clause-bounded : goal.multiple-requires-clause-bounded
multiple-requires-clause-bounded g t c =
    let s = g.S.TermStore.state c.args.s.now in
    let xs = list_at s.lists (slot_of c.args.a) in
    let q = polynomial_at s c.args.b in
    let wa = within-of (polynomial_at s c.args.a) c.requires.a.standard in
    let wb = within-of q c.requires.b.standard in
    wb.bounded

pub multiple-requires-clause-lows : goal.multiple-requires-clause-lows
multiple-requires-clause-lows g t c =
    let s = g.S.TermStore.state c.args.s.now in
    let xs = list_at s.lists (slot_of c.args.a) in
    let q = polynomial_at s c.args.b in
    let wa = within-of (polynomial_at s c.args.a) c.requires.a.standard in
    let wb = within-of q c.requires.b.standard in
    wb.low

pub unreachable-requires : goal.unreachable-requires
unreachable-requires g t c =
    let s = g.S.TermStore.state c.args.s.now in
    let xs = list_at s.lists (slot_of c.args.a) in
    let q = polynomial_at s c.args.b in
    let wa = within-of (polynomial_at s c.args.a) c.requires.a.standard in
    let wb = within-of q c.requires.b.standard in
    let at = c.get-factor.ensures in
    let below : c.args.from < length xs = omega (arith, c.requires.within, c.requires.some) in
    halving.clash _ (halving.one-bounded xs c.args.from c.args.count c.get-factor.result q below at c.if-count-eq1.true c.requires.sizes) c.in-None.ensures.passes

pub returns-then-count-eq1-clause-value : goal.returns-then-count-eq1-clause-value
returns-then-count-eq1-clause-value g t c =
    let s = g.S.TermStore.state c.args.s.now in
    let xs = list_at s.lists (slot_of c.args.a) in
    let q = polynomial_at s c.args.b in
    let wa = within-of (polynomial_at s c.args.a) c.requires.a.standard in
    let wb = within-of q c.requires.b.standard in
    let at = c.get-factor.ensures in
    let below : c.args.from < length xs = omega (arith, c.requires.within, c.requires.some) in
    c.in-Some.ensures.value ∙ sym (halving.one-product MOST_VARIABLES xs c.args.from c.args.count c.get-factor.result q below at c.if-count-eq1.true wa.descending wb.descending)

pub by_halves-first-requires : goal.by_halves-first-requires
by_halves-first-requires g t c κs within =
    let s = g.S.TermStore.state c.args.s.now in
    let xs = list_at s.lists (slot_of c.args.a) in
    let q = polynomial_at s c.args.b in
    let wa = within-of (polynomial_at s c.args.a) c.requires.a.standard in
    let wb = within-of q c.requires.b.standard in
    let h = c.args.count / 2 in
    let m = c.args.count - h in
    let le : h ≤ c.args.count = omega arith in
    let times = halving.times-split h c.args.count (length q) le in
    let parts = halving.part-sizes xs c.args.from h c.args.count (sizes_of q) le in
    let less : h < t = omega arith in
    let some : 0 < h = omega arith in
    let inside : c.args.from + h ≤ length xs = omega (arith, c.requires.within) in
    let small : sizes_of (part_of xs c.args.from h) * sizes_of q ≤ MOST_SIZE = omega (arith, parts, c.requires.sizes) in
    let room : 3 * (h * length q + h) ≤ s.spare = omega (arith, times, c.requires.room) in
    (less, (within, (c.requires.a, (c.requires.b, (some, (inside, (small, room)))))))

pub by_halves-second-requires : goal.by_halves-second-requires
by_halves-second-requires g t c κs within =
    let s = g.S.TermStore.state c.args.s.now in
    let xs = list_at s.lists (slot_of c.args.a) in
    let q = polynomial_at s c.args.b in
    let wa = within-of (polynomial_at s c.args.a) c.requires.a.standard in
    let wb = within-of q c.requires.b.standard in
    let h = c.args.count / 2 in
    let m = c.args.count - h in
    let le : h ≤ c.args.count = omega arith in
    let times = halving.times-split h c.args.count (length q) le in
    let parts = halving.part-sizes xs c.args.from h c.args.count (sizes_of q) le in
    let t1 = g.S.TermStore.state c.by_halves-first.new.s in
    let made = c.by_halves-first.ensures.made in
    let kept = making.makes-other s t1 _ _ made c.requires.a.live in
    let value = results.kept-value s t1 _ c.args.b made c.requires.b in
    let few1 = halving.product-few xs (list_at t1.lists c.by_halves-first.result.0) q c.args.from h (omega (arith, c.requires.within)) c.by_halves-first.ensures.value in
    let less : m < t = omega arith in
    let some : 0 < m = omega arith in
    let inside : c.args.from + h + m ≤ length (list_at t1.lists (slot_of c.args.a)) = omega (arith, c.requires.within, ap length kept) in
    let small : sizes_of (part_of xs (c.args.from + h) m) * sizes_of q ≤ MOST_SIZE = omega (arith, parts, c.requires.sizes) in
    let now = subst (λ l. sizes_of (part_of l (c.args.from + h) m) * sizes_of (polynomial_at t1 c.args.b) ≤ MOST_SIZE) (sym kept)
    (subst (λ p. sizes_of (part_of xs (c.args.from + h) m) * sizes_of p ≤ MOST_SIZE) (sym value) small) in
    let room : 3 * (m * length q + m) ≤ t1.spare = omega (arith, times, few1, made.spare, c.requires.room) in
    let roomy = subst (λ p. 3 * (m * length p + m) ≤ t1.spare) (sym value) room in
    (less, (within, (results.kept-poly s t1 _ c.args.a made c.requires.a, (results.kept-poly s t1 _ c.args.b made c.requires.b, (some, (inside, (now, roomy)))))))

pub merge-requires-clause-live_a : goal.merge-requires-clause-live_a
merge-requires-clause-live_a g t c =
    let s = g.S.TermStore.state c.args.s.now in
    let xs = list_at s.lists (slot_of c.args.a) in
    let q = polynomial_at s c.args.b in
    let wa = within-of (polynomial_at s c.args.a) c.requires.a.standard in
    let wb = within-of q c.requires.b.standard in
    let h = c.args.count / 2 in
    let m = c.args.count - h in
    let le : h ≤ c.args.count = omega arith in
    let times = halving.times-split h c.args.count (length q) le in
    let parts = halving.part-sizes xs c.args.from h c.args.count (sizes_of q) le in
    let t1 = g.S.TermStore.state c.by_halves-first.new.s in
    let made = c.by_halves-first.ensures.made in
    let kept = making.makes-other s t1 _ _ made c.requires.a.live in
    let value = results.kept-value s t1 _ c.args.b made c.requires.b in
    let few1 = halving.product-few xs (list_at t1.lists c.by_halves-first.result.0) q c.args.from h (omega (arith, c.requires.within)) c.by_halves-first.ensures.value in
    let u = g.S.TermStore.state c.by_halves-second.new.s in
    let made2 = c.by_halves-second.ensures.made in
    let live1 = making.makes-live s t1 _ made in
    let kept1 = making.makes-other t1 u _ _ made2 live1 in
    let one : polynomial_of (list_at u.lists c.by_halves-first.result.0) ≡ poly_product (part_of xs c.args.from h) q = ap polynomial_of kept1 ∙ c.by_halves-first.ensures.value in
    let two : polynomial_of (list_at u.lists c.by_halves-second.result.0) ≡ poly_product (part_of xs (c.args.from + h) m) q =
    c.by_halves-second.ensures.value ∙ (λ i. poly_product (part_of (kept i) (c.args.from + h) m) (value i)) in
    let whole : poly_product (part_of xs c.args.from c.args.count) q ≡ poly_sum (polynomial_of (list_at u.lists c.by_halves-first.result.0)) (polynomial_of (list_at u.lists c.by_halves-second.result.0)) =
    halving.product-halves MOST_VARIABLES xs q c.args.from h c.args.count le wa.descending wb.descending ∙ (λ i. poly_sum (sym one i) (sym two i)) in
    making.makes-other-live t1 u _ _ made2 live1

pub merge-requires-clause-live_b : goal.merge-requires-clause-live_b
merge-requires-clause-live_b g t c =
    making.makes-live _ _ _ c.by_halves-second.ensures.made

pub merge-requires-clause-descending_a : goal.merge-requires-clause-descending_a
merge-requires-clause-descending_a g t c =
    let s = g.S.TermStore.state c.args.s.now in
    let xs = list_at s.lists (slot_of c.args.a) in
    let q = polynomial_at s c.args.b in
    let wa = within-of (polynomial_at s c.args.a) c.requires.a.standard in
    let wb = within-of q c.requires.b.standard in
    let h = c.args.count / 2 in
    let m = c.args.count - h in
    let le : h ≤ c.args.count = omega arith in
    let times = halving.times-split h c.args.count (length q) le in
    let parts = halving.part-sizes xs c.args.from h c.args.count (sizes_of q) le in
    let t1 = g.S.TermStore.state c.by_halves-first.new.s in
    let made = c.by_halves-first.ensures.made in
    let kept = making.makes-other s t1 _ _ made c.requires.a.live in
    let value = results.kept-value s t1 _ c.args.b made c.requires.b in
    let few1 = halving.product-few xs (list_at t1.lists c.by_halves-first.result.0) q c.args.from h (omega (arith, c.requires.within)) c.by_halves-first.ensures.value in
    let u = g.S.TermStore.state c.by_halves-second.new.s in
    let made2 = c.by_halves-second.ensures.made in
    let live1 = making.makes-live s t1 _ made in
    let kept1 = making.makes-other t1 u _ _ made2 live1 in
    let one : polynomial_of (list_at u.lists c.by_halves-first.result.0) ≡ poly_product (part_of xs c.args.from h) q = ap polynomial_of kept1 ∙ c.by_halves-first.ensures.value in
    let two : polynomial_of (list_at u.lists c.by_halves-second.result.0) ≡ poly_product (part_of xs (c.args.from + h) m) q =
    c.by_halves-second.ensures.value ∙ (λ i. poly_product (part_of (kept i) (c.args.from + h) m) (value i)) in
    let whole : poly_product (part_of xs c.args.from c.args.count) q ≡ poly_sum (polynomial_of (list_at u.lists c.by_halves-first.result.0)) (polynomial_of (list_at u.lists c.by_halves-second.result.0)) =
    halving.product-halves MOST_VARIABLES xs q c.args.from h c.args.count le wa.descending wb.descending ∙ (λ i. poly_sum (sym one i) (sym two i)) in
    subst (IsDescending MOST_VARIABLES) (sym one) (descending-product MOST_VARIABLES (part_of xs c.args.from h) q (halving.part-descending MOST_VARIABLES c.args.from h xs wa.descending) wb.descending)

pub merge-requires-clause-descending_b : goal.merge-requires-clause-descending_b
merge-requires-clause-descending_b g t c =
    let s = g.S.TermStore.state c.args.s.now in
    let xs = list_at s.lists (slot_of c.args.a) in
    let q = polynomial_at s c.args.b in
    let wa = within-of (polynomial_at s c.args.a) c.requires.a.standard in
    let wb = within-of q c.requires.b.standard in
    let h = c.args.count / 2 in
    let m = c.args.count - h in
    let le : h ≤ c.args.count = omega arith in
    let times = halving.times-split h c.args.count (length q) le in
    let parts = halving.part-sizes xs c.args.from h c.args.count (sizes_of q) le in
    let t1 = g.S.TermStore.state c.by_halves-first.new.s in
    let made = c.by_halves-first.ensures.made in
    let kept = making.makes-other s t1 _ _ made c.requires.a.live in
    let value = results.kept-value s t1 _ c.args.b made c.requires.b in
    let few1 = halving.product-few xs (list_at t1.lists c.by_halves-first.result.0) q c.args.from h (omega (arith, c.requires.within)) c.by_halves-first.ensures.value in
    let u = g.S.TermStore.state c.by_halves-second.new.s in
    let made2 = c.by_halves-second.ensures.made in
    let live1 = making.makes-live s t1 _ made in
    let kept1 = making.makes-other t1 u _ _ made2 live1 in
    let one : polynomial_of (list_at u.lists c.by_halves-first.result.0) ≡ poly_product (part_of xs c.args.from h) q = ap polynomial_of kept1 ∙ c.by_halves-first.ensures.value in
    let two : polynomial_of (list_at u.lists c.by_halves-second.result.0) ≡ poly_product (part_of xs (c.args.from + h) m) q =
    c.by_halves-second.ensures.value ∙ (λ i. poly_product (part_of (kept i) (c.args.from + h) m) (value i)) in
    let whole : poly_product (part_of xs c.args.from c.args.count) q ≡ poly_sum (polynomial_of (list_at u.lists c.by_halves-first.result.0)) (polynomial_of (list_at u.lists c.by_halves-second.result.0)) =
    halving.product-halves MOST_VARIABLES xs q c.args.from h c.args.count le wa.descending wb.descending ∙ (λ i. poly_sum (sym one i) (sym two i)) in
    subst (IsDescending MOST_VARIABLES) (sym two) (descending-product MOST_VARIABLES (part_of xs (c.args.from + h) m) q (halving.part-descending MOST_VARIABLES (c.args.from + h) m xs wa.descending) wb.descending)

pub merge-requires-clause-bounded_a : goal.merge-requires-clause-bounded_a
merge-requires-clause-bounded_a g t c =
    let s = g.S.TermStore.state c.args.s.now in
    let xs = list_at s.lists (slot_of c.args.a) in
    let q = polynomial_at s c.args.b in
    let wa = within-of (polynomial_at s c.args.a) c.requires.a.standard in
    let wb = within-of q c.requires.b.standard in
    let h = c.args.count / 2 in
    let m = c.args.count - h in
    let le : h ≤ c.args.count = omega arith in
    let times = halving.times-split h c.args.count (length q) le in
    let parts = halving.part-sizes xs c.args.from h c.args.count (sizes_of q) le in
    let t1 = g.S.TermStore.state c.by_halves-first.new.s in
    let made = c.by_halves-first.ensures.made in
    let kept = making.makes-other s t1 _ _ made c.requires.a.live in
    let value = results.kept-value s t1 _ c.args.b made c.requires.b in
    let few1 = halving.product-few xs (list_at t1.lists c.by_halves-first.result.0) q c.args.from h (omega (arith, c.requires.within)) c.by_halves-first.ensures.value in
    let u = g.S.TermStore.state c.by_halves-second.new.s in
    let made2 = c.by_halves-second.ensures.made in
    let live1 = making.makes-live s t1 _ made in
    let kept1 = making.makes-other t1 u _ _ made2 live1 in
    let one : polynomial_of (list_at u.lists c.by_halves-first.result.0) ≡ poly_product (part_of xs c.args.from h) q = ap polynomial_of kept1 ∙ c.by_halves-first.ensures.value in
    let two : polynomial_of (list_at u.lists c.by_halves-second.result.0) ≡ poly_product (part_of xs (c.args.from + h) m) q =
    c.by_halves-second.ensures.value ∙ (λ i. poly_product (part_of (kept i) (c.args.from + h) m) (value i)) in
    let whole : poly_product (part_of xs c.args.from c.args.count) q ≡ poly_sum (polynomial_of (list_at u.lists c.by_halves-first.result.0)) (polynomial_of (list_at u.lists c.by_halves-second.result.0)) =
    halving.product-halves MOST_VARIABLES xs q c.args.from h c.args.count le wa.descending wb.descending ∙ (λ i. poly_sum (sym one i) (sym two i)) in
    ap are_bounded one ∙ halving.product-bounded (part_of xs c.args.from h) q (omega (arith, parts, c.requires.sizes))

pub merge-requires-clause-bounded_b : goal.merge-requires-clause-bounded_b
merge-requires-clause-bounded_b g t c =
    let s = g.S.TermStore.state c.args.s.now in
    let xs = list_at s.lists (slot_of c.args.a) in
    let q = polynomial_at s c.args.b in
    let wa = within-of (polynomial_at s c.args.a) c.requires.a.standard in
    let wb = within-of q c.requires.b.standard in
    let h = c.args.count / 2 in
    let m = c.args.count - h in
    let le : h ≤ c.args.count = omega arith in
    let times = halving.times-split h c.args.count (length q) le in
    let parts = halving.part-sizes xs c.args.from h c.args.count (sizes_of q) le in
    let t1 = g.S.TermStore.state c.by_halves-first.new.s in
    let made = c.by_halves-first.ensures.made in
    let kept = making.makes-other s t1 _ _ made c.requires.a.live in
    let value = results.kept-value s t1 _ c.args.b made c.requires.b in
    let few1 = halving.product-few xs (list_at t1.lists c.by_halves-first.result.0) q c.args.from h (omega (arith, c.requires.within)) c.by_halves-first.ensures.value in
    let u = g.S.TermStore.state c.by_halves-second.new.s in
    let made2 = c.by_halves-second.ensures.made in
    let live1 = making.makes-live s t1 _ made in
    let kept1 = making.makes-other t1 u _ _ made2 live1 in
    let one : polynomial_of (list_at u.lists c.by_halves-first.result.0) ≡ poly_product (part_of xs c.args.from h) q = ap polynomial_of kept1 ∙ c.by_halves-first.ensures.value in
    let two : polynomial_of (list_at u.lists c.by_halves-second.result.0) ≡ poly_product (part_of xs (c.args.from + h) m) q =
    c.by_halves-second.ensures.value ∙ (λ i. poly_product (part_of (kept i) (c.args.from + h) m) (value i)) in
    let whole : poly_product (part_of xs c.args.from c.args.count) q ≡ poly_sum (polynomial_of (list_at u.lists c.by_halves-first.result.0)) (polynomial_of (list_at u.lists c.by_halves-second.result.0)) =
    halving.product-halves MOST_VARIABLES xs q c.args.from h c.args.count le wa.descending wb.descending ∙ (λ i. poly_sum (sym one i) (sym two i)) in
    ap are_bounded two ∙ halving.product-bounded (part_of xs (c.args.from + h) m) q (omega (arith, parts, c.requires.sizes))

pub merge-requires-clause-room : goal.merge-requires-clause-room
merge-requires-clause-room g t c =
    let s = g.S.TermStore.state c.args.s.now in
    let xs = list_at s.lists (slot_of c.args.a) in
    let q = polynomial_at s c.args.b in
    let wa = within-of (polynomial_at s c.args.a) c.requires.a.standard in
    let wb = within-of q c.requires.b.standard in
    let h = c.args.count / 2 in
    let m = c.args.count - h in
    let le : h ≤ c.args.count = omega arith in
    let times = halving.times-split h c.args.count (length q) le in
    let parts = halving.part-sizes xs c.args.from h c.args.count (sizes_of q) le in
    let t1 = g.S.TermStore.state c.by_halves-first.new.s in
    let made = c.by_halves-first.ensures.made in
    let kept = making.makes-other s t1 _ _ made c.requires.a.live in
    let value = results.kept-value s t1 _ c.args.b made c.requires.b in
    let few1 = halving.product-few xs (list_at t1.lists c.by_halves-first.result.0) q c.args.from h (omega (arith, c.requires.within)) c.by_halves-first.ensures.value in
    let u = g.S.TermStore.state c.by_halves-second.new.s in
    let made2 = c.by_halves-second.ensures.made in
    let live1 = making.makes-live s t1 _ made in
    let kept1 = making.makes-other t1 u _ _ made2 live1 in
    let one : polynomial_of (list_at u.lists c.by_halves-first.result.0) ≡ poly_product (part_of xs c.args.from h) q = ap polynomial_of kept1 ∙ c.by_halves-first.ensures.value in
    let two : polynomial_of (list_at u.lists c.by_halves-second.result.0) ≡ poly_product (part_of xs (c.args.from + h) m) q =
    c.by_halves-second.ensures.value ∙ (λ i. poly_product (part_of (kept i) (c.args.from + h) m) (value i)) in
    let whole : poly_product (part_of xs c.args.from c.args.count) q ≡ poly_sum (polynomial_of (list_at u.lists c.by_halves-first.result.0)) (polynomial_of (list_at u.lists c.by_halves-second.result.0)) =
    halving.product-halves MOST_VARIABLES xs q c.args.from h c.args.count le wa.descending wb.descending ∙ (λ i. poly_sum (sym one i) (sym two i)) in
    let few2 = halving.product-few xs (list_at u.lists c.by_halves-second.result.0) q (c.args.from + h) m (omega (arith, c.requires.within)) two in
    omega (arith, times, few1, few2, ap length kept1, made.spare, made2.spare, c.requires.room)

pub unreachable-requires-in-None-merge : goal.unreachable-requires-in-None-merge
unreachable-requires-in-None-merge g t c =
    let s = g.S.TermStore.state c.args.s.now in
    let xs = list_at s.lists (slot_of c.args.a) in
    let q = polynomial_at s c.args.b in
    let wa = within-of (polynomial_at s c.args.a) c.requires.a.standard in
    let wb = within-of q c.requires.b.standard in
    let h = c.args.count / 2 in
    let m = c.args.count - h in
    let le : h ≤ c.args.count = omega arith in
    let times = halving.times-split h c.args.count (length q) le in
    let parts = halving.part-sizes xs c.args.from h c.args.count (sizes_of q) le in
    let t1 = g.S.TermStore.state c.by_halves-first.new.s in
    let made = c.by_halves-first.ensures.made in
    let kept = making.makes-other s t1 _ _ made c.requires.a.live in
    let value = results.kept-value s t1 _ c.args.b made c.requires.b in
    let few1 = halving.product-few xs (list_at t1.lists c.by_halves-first.result.0) q c.args.from h (omega (arith, c.requires.within)) c.by_halves-first.ensures.value in
    let u = g.S.TermStore.state c.by_halves-second.new.s in
    let made2 = c.by_halves-second.ensures.made in
    let live1 = making.makes-live s t1 _ made in
    let kept1 = making.makes-other t1 u _ _ made2 live1 in
    let one : polynomial_of (list_at u.lists c.by_halves-first.result.0) ≡ poly_product (part_of xs c.args.from h) q = ap polynomial_of kept1 ∙ c.by_halves-first.ensures.value in
    let two : polynomial_of (list_at u.lists c.by_halves-second.result.0) ≡ poly_product (part_of xs (c.args.from + h) m) q =
    c.by_halves-second.ensures.value ∙ (λ i. poly_product (part_of (kept i) (c.args.from + h) m) (value i)) in
    let whole : poly_product (part_of xs c.args.from c.args.count) q ≡ poly_sum (polynomial_of (list_at u.lists c.by_halves-first.result.0)) (polynomial_of (list_at u.lists c.by_halves-second.result.0)) =
    halving.product-halves MOST_VARIABLES xs q c.args.from h c.args.count le wa.descending wb.descending ∙ (λ i. poly_sum (sym one i) (sym two i)) in
    halving.clash _ (ap are_bounded (sym whole) ∙ halving.product-bounded (part_of xs c.args.from c.args.count) q c.requires.sizes) c.in-None-merge.ensures.passes

pub free-requires : goal.free-requires
free-requires g t c =
    making.makes-other-live _ _ _ _ c.in-Some-merge.ensures.made (making.makes-live _ _ _ c.by_halves-second.ensures.made)

pub free-requires-2 : goal.free-requires-2
free-requires-2 g t c =
    let t1 = g.S.TermStore.state c.by_halves-first.new.s in
    let u = g.S.TermStore.state c.by_halves-second.new.s in
    let v = g.S.TermStore.state c.merge.new.s in
    let live1 = making.makes-live _ t1 _ c.by_halves-first.ensures.made in
    let live2 = making.makes-other-live t1 u _ _ c.by_halves-second.ensures.made live1 in
    let live3 = making.makes-other-live u v _ _ c.in-Some-merge.ensures.made live2 in
    subst (λ l. IsLive l c.by_halves-first.result.0) (sym c.free.ensures.lists) (making.live-removed v.lists _ _ (making.makes-apart t1 u _ _ c.by_halves-second.ensures.made live1) live3)

pub returns-clause-made : goal.returns-clause-made
returns-clause-made g t c =
    let s = g.S.TermStore.state c.args.s.now in
    let t1 = g.S.TermStore.state c.by_halves-first.new.s in
    let made = c.by_halves-first.ensures.made in
    let u = g.S.TermStore.state c.by_halves-second.new.s in
    let made2 = c.by_halves-second.ensures.made in
    let v = g.S.TermStore.state c.merge.new.s in
    let f1 = g.S.TermStore.state c.free.new.self in
    let sum = c.in-Some-merge.ensures.made in
    let inner = making.makes-swapped t1 u v f1 _ _ made2 sum c.free.ensures.lists c.free.ensures.spare in
    making.makes-swapped s t1 f1 _ _ _ made inner c.free-2.ensures.lists c.free-2.ensures.spare

pub returns-clause-value : goal.returns-clause-value
returns-clause-value g t c =
    let s = g.S.TermStore.state c.args.s.now in
    let xs = list_at s.lists (slot_of c.args.a) in
    let q = polynomial_at s c.args.b in
    let wa = within-of (polynomial_at s c.args.a) c.requires.a.standard in
    let wb = within-of q c.requires.b.standard in
    let h = c.args.count / 2 in
    let m = c.args.count - h in
    let le : h ≤ c.args.count = omega arith in
    let times = halving.times-split h c.args.count (length q) le in
    let parts = halving.part-sizes xs c.args.from h c.args.count (sizes_of q) le in
    let t1 = g.S.TermStore.state c.by_halves-first.new.s in
    let made = c.by_halves-first.ensures.made in
    let kept = making.makes-other s t1 _ _ made c.requires.a.live in
    let value = results.kept-value s t1 _ c.args.b made c.requires.b in
    let few1 = halving.product-few xs (list_at t1.lists c.by_halves-first.result.0) q c.args.from h (omega (arith, c.requires.within)) c.by_halves-first.ensures.value in
    let u = g.S.TermStore.state c.by_halves-second.new.s in
    let made2 = c.by_halves-second.ensures.made in
    let live1 = making.makes-live s t1 _ made in
    let kept1 = making.makes-other t1 u _ _ made2 live1 in
    let one : polynomial_of (list_at u.lists c.by_halves-first.result.0) ≡ poly_product (part_of xs c.args.from h) q = ap polynomial_of kept1 ∙ c.by_halves-first.ensures.value in
    let two : polynomial_of (list_at u.lists c.by_halves-second.result.0) ≡ poly_product (part_of xs (c.args.from + h) m) q =
    c.by_halves-second.ensures.value ∙ (λ i. poly_product (part_of (kept i) (c.args.from + h) m) (value i)) in
    let whole : poly_product (part_of xs c.args.from c.args.count) q ≡ poly_sum (polynomial_of (list_at u.lists c.by_halves-first.result.0)) (polynomial_of (list_at u.lists c.by_halves-second.result.0)) =
    halving.product-halves MOST_VARIABLES xs q c.args.from h c.args.count le wa.descending wb.descending ∙ (λ i. poly_sum (sym one i) (sym two i)) in
    let v = g.S.TermStore.state c.merge.new.s in
    let f1 = g.S.TermStore.state c.free.new.self in
    let sum = c.in-Some-merge.ensures.made in
    let inner = making.makes-swapped t1 u v f1 _ _ made2 sum c.free.ensures.lists c.free.ensures.spare in
    let f2 = g.S.TermStore.state c.free-2.new.self in
    let at = making.makes-swapped-at s t1 f1 f2 _ _ made inner c.free-2.ensures.lists ∙ making.makes-swapped-at t1 u v f1 _ _ made2 sum c.free.ensures.lists in
    ap polynomial_of at ∙ c.in-Some-merge.ensures.value ∙ sym whole

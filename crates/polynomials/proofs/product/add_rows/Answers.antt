use Rattle.std.proofs.Common.{◌≡◌, ◌≤◌, ◌<◌, ◌+◌, ◌*◌, length, sym, subst, arith}
use Rattle.poly_model.specs.Polynomial.{poly_sum, poly_product}
use Rattle.poly_model.specs.Standard.{polynomial_of}
use Rattle.poly_model.specs.declared.limits.TheConstants.{MOST_VARIABLES}
use Rattle.poly_model.proofs.Within.{within-of}
use Rattle.term_store.specs.States.{list_at}
use Rattle.term_store.specs.Changes.{given_up}
use Rattle.polynomials.specs.Held.{Outcome, polynomial_at, slot_of}
use Rattle.polynomials.specs.Sizes.{part_of}
use Rattle.polynomials.proofs.Steps as steps
use Rattle.polynomials.proofs.Outcomes as outcomes
use Rattle.polynomials.proofs.Halving as halving
use Rattle.polynomials.proofs.RowGroups as groups
use Rattle.polynomials.proofs.product.add_rows.Goals as goal

pub add_row-requires-clause-coef : goal.add_row-requires-clause-coef
add_row-requires-clause-coef g c =
    let s = g.S.TermStore.state c.args.s.now in
    let xs = list_at s.lists (slot_of c.args.a) in
    let q = polynomial_at s c.args.b in
    let wa = within-of (polynomial_at s c.args.a) c.requires.a.standard in
    let wb = within-of q c.requires.b.standard in
    let factor = c.get-factor.result in
    let at = c.get-factor.ensures in
    let below : c.args.from < length xs = omega (arith, c.requires.within, c.requires.some) in
    steps.bounded-at xs c.args.from factor below at wa.bounded

pub add_row-requires-clause-some : goal.add_row-requires-clause-some
add_row-requires-clause-some g c =
    let s = g.S.TermStore.state c.args.s.now in
    let xs = list_at s.lists (slot_of c.args.a) in
    let q = polynomial_at s c.args.b in
    let wa = within-of (polynomial_at s c.args.a) c.requires.a.standard in
    let wb = within-of q c.requires.b.standard in
    let factor = c.get-factor.result in
    let at = c.get-factor.ensures in
    let below : c.args.from < length xs = omega (arith, c.requires.within, c.requires.some) in
    (steps.entry-at MOST_VARIABLES xs c.args.from factor below at wa.descending).1

pub add_row-requires-clause-whole : goal.add_row-requires-clause-whole
add_row-requires-clause-whole g c =
    let s = g.S.TermStore.state c.args.s.now in
    let xs = list_at s.lists (slot_of c.args.a) in
    let q = polynomial_at s c.args.b in
    let wa = within-of (polynomial_at s c.args.a) c.requires.a.standard in
    let wb = within-of q c.requires.b.standard in
    let factor = c.get-factor.result in
    let at = c.get-factor.ensures in
    let below : c.args.from < length xs = omega (arith, c.requires.within, c.requires.some) in
    (steps.entry-at MOST_VARIABLES xs c.args.from factor below at wa.descending).0

pub add_row-requires-clause-low : goal.add_row-requires-clause-low
add_row-requires-clause-low g c =
    let s = g.S.TermStore.state c.args.s.now in
    let xs = list_at s.lists (slot_of c.args.a) in
    let q = polynomial_at s c.args.b in
    let wa = within-of (polynomial_at s c.args.a) c.requires.a.standard in
    let wb = within-of q c.requires.b.standard in
    let factor = c.get-factor.result in
    let at = c.get-factor.ensures in
    let below : c.args.from < length xs = omega (arith, c.requires.within, c.requires.some) in
    steps.lows-at xs c.args.from factor below at wa.low

pub add_row-requires-clause-q_descending : goal.add_row-requires-clause-q_descending
add_row-requires-clause-q_descending g c =
    let s = g.S.TermStore.state c.args.s.now in
    let xs = list_at s.lists (slot_of c.args.a) in
    let q = polynomial_at s c.args.b in
    let wa = within-of (polynomial_at s c.args.a) c.requires.a.standard in
    let wb = within-of q c.requires.b.standard in
    wb.descending

pub add_row-requires-clause-q_bounded : goal.add_row-requires-clause-q_bounded
add_row-requires-clause-q_bounded g c =
    let s = g.S.TermStore.state c.args.s.now in
    let xs = list_at s.lists (slot_of c.args.a) in
    let q = polynomial_at s c.args.b in
    let wa = within-of (polynomial_at s c.args.a) c.requires.a.standard in
    let wb = within-of q c.requires.b.standard in
    wb.bounded

pub add_row-requires-clause-q_low : goal.add_row-requires-clause-q_low
add_row-requires-clause-q_low g c =
    let s = g.S.TermStore.state c.args.s.now in
    let xs = list_at s.lists (slot_of c.args.a) in
    let q = polynomial_at s c.args.b in
    let wa = within-of (polynomial_at s c.args.a) c.requires.a.standard in
    let wb = within-of q c.requires.b.standard in
    wb.low

pub add_row-requires-clause-room : goal.add_row-requires-clause-room
add_row-requires-clause-room g c =
    let short = outcomes.few (g.S.TermStore.state c.args.s.now) (slot_of c.args.b) c.requires.b.standard in
    omega (arith, short, c.requires.short, c.requires.room)

pub returns-then-rows-eq1 : goal.returns-then-rows-eq1
returns-then-rows-eq1 g c =
    let s = g.S.TermStore.state c.args.s.now in
    let xs = list_at s.lists (slot_of c.args.a) in
    let q = polynomial_at s c.args.b in
    let factor = c.get-factor.result in
    let at = c.get-factor.ensures in
    let below : c.args.from < length xs = omega (arith, c.requires.within, c.requires.some) in
    let sum = polynomial_of (list_at s.lists c.args.sum.0) in
    subst (Outcome (given_up s c.args.sum.0) (g.S.TermStore.state c.add_row.new.s) c.add_row.result)
    (sym (groups.one-row xs c.args.from c.args.rows factor q sum below at c.if-rows-eq1.true)) c.add_row.ensures

pub add_group-requires-clause-terms : goal.add_group-requires-clause-terms
add_group-requires-clause-terms g c =
    let more : 1 < c.args.rows = omega (arith, c.requires.some) in
    c.requires.terms more

pub add_group-requires-clause-sizes : goal.add_group-requires-clause-sizes
add_group-requires-clause-sizes g c =
    let more : 1 < c.args.rows = omega (arith, c.requires.some) in
    c.requires.sizes more

pub returns : goal.returns
returns g c =
    let s = g.S.TermStore.state c.args.s.now in
    let xs = list_at s.lists (slot_of c.args.a) in
    let q = polynomial_at s c.args.b in
    let wa = within-of (polynomial_at s c.args.a) c.requires.a.standard in
    let wb = within-of q c.requires.b.standard in
    let part = part_of xs c.args.from c.args.rows in
    let ss = list_at s.lists c.args.sum.0 in
    let sum = polynomial_of ss in
    let more : 1 < c.args.rows = omega (arith, c.requires.some) in
    let terms = groups.group-terms xs (list_at s.lists (slot_of c.args.b)) ss c.args.from c.args.rows c.requires.within (c.requires.terms more) in
    let value = groups.group-is MOST_VARIABLES part q sum (halving.part-descending MOST_VARIABLES c.args.from c.args.rows xs wa.descending) wb.descending c.requires.descending (c.requires.sizes more) terms in
    outcomes.made _ _ _ (poly_sum (poly_product part q) sum) _ value c.add_group.ensures.made c.add_group.ensures.value

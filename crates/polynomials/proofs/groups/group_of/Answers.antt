use Rattle.std.proofs.Common.{◌≤◌, ◌+◌, ◌*◌, length, sym, ◌∙◌, ap, subst, arith}
use Rattle.std.proofs.Math.Nat.{mul_comm}
use Rattle.poly_model.specs.Polynomial.{poly_product}
use Rattle.poly_model.specs.Standard.{polynomial_of}
use Rattle.poly_model.specs.declared.limits.TheConstants.{MOST_VARIABLES, MOST_SIZE, MOST_TERMS}
use Rattle.poly_model.proofs.Within.{within-of}
use Rattle.term_store.specs.States.{list_at}
use Rattle.term_store.proofs.Making as making
use Rattle.polynomials.specs.Held.{polynomial_at, slot_of}
use Rattle.polynomials.specs.Sizes.{sizes_of, part_of}
use Rattle.polynomials.proofs.Outcomes as outcomes
use Rattle.polynomials.proofs.Results as results
use Rattle.polynomials.proofs.Halving as halving
use Rattle.polynomials.proofs.Unlimited.{product-comm}
use Rattle.polynomials.proofs.groups.group_of.Goals as goal

pub by_halves-requires-clause-room : goal.by_halves-requires-clause-room
by_halves-requires-clause-room g c =
    let short = outcomes.few (g.S.TermStore.state c.args.s.now) (slot_of c.args.a) c.requires.a.standard in
    omega (arith, short, c.requires.within, c.requires.terms, c.requires.room)

pub copy_part-part-requires-clause-room : goal.copy_part-part-requires-clause-room
copy_part-part-requires-clause-room g c =
    let short = outcomes.few (g.S.TermStore.state c.args.s.now) (slot_of c.args.a) c.requires.a.standard in
    omega (arith, short, c.requires.within, c.requires.room)

pub rows_of-group-requires-clause-a : goal.rows_of-group-requires-clause-a
rows_of-group-requires-clause-a g c =
    let s = g.S.TermStore.state c.args.s.now in
    let t = g.S.TermStore.state c.copy_part-part.new.s in
    let xs = list_at s.lists (slot_of c.args.a) in
    let q = polynomial_at s c.args.b in
    let part = part_of xs c.args.from c.args.rows in
    let made = c.copy_part-part.ensures in
    let value_b = results.kept-value s t _ c.args.b made.makes c.requires.b in
    results.kept-poly s t _ c.args.b made.makes c.requires.b

pub rows_of-group-requires-clause-b : goal.rows_of-group-requires-clause-b
rows_of-group-requires-clause-b g c =
    let s = g.S.TermStore.state c.args.s.now in
    let t = g.S.TermStore.state c.copy_part-part.new.s in
    let xs = list_at s.lists (slot_of c.args.a) in
    let q = polynomial_at s c.args.b in
    let part = part_of xs c.args.from c.args.rows in
    let made = c.copy_part-part.ensures in
    let value_b = results.kept-value s t _ c.args.b made.makes c.requires.b in
    results.made-poly s t _ part made

pub rows_of-group-requires-clause-terms : goal.rows_of-group-requires-clause-terms
rows_of-group-requires-clause-terms g c =
    let s = g.S.TermStore.state c.args.s.now in
    let t = g.S.TermStore.state c.copy_part-part.new.s in
    let xs = list_at s.lists (slot_of c.args.a) in
    let q = polynomial_at s c.args.b in
    let part = part_of xs c.args.from c.args.rows in
    let made = c.copy_part-part.ensures in
    let value_b = results.kept-value s t _ c.args.b made.makes c.requires.b in
    let turned = mul_comm (length q) (length part) in
    let long = ap (λ n. n * length q) (halving.part-length xs c.args.from c.args.rows c.requires.within) in
    let few : length q * length part ≤ MOST_TERMS = omega (arith, turned, long, c.requires.terms) in
    subst (λ p. length p * length (polynomial_at t c.copy_part-part.result) ≤ MOST_TERMS) (sym value_b) (subst (λ p. length q * length p ≤ MOST_TERMS) (sym made.value) few)

pub rows_of-group-requires-clause-sizes : goal.rows_of-group-requires-clause-sizes
rows_of-group-requires-clause-sizes g c =
    let s = g.S.TermStore.state c.args.s.now in
    let t = g.S.TermStore.state c.copy_part-part.new.s in
    let xs = list_at s.lists (slot_of c.args.a) in
    let q = polynomial_at s c.args.b in
    let part = part_of xs c.args.from c.args.rows in
    let made = c.copy_part-part.ensures in
    let value_b = results.kept-value s t _ c.args.b made.makes c.requires.b in
    let turned = mul_comm (sizes_of q) (sizes_of part) in
    let small : sizes_of q * sizes_of part ≤ MOST_SIZE = omega (arith, turned, c.requires.sizes) in
    subst (λ p. sizes_of p * sizes_of (polynomial_at t c.copy_part-part.result) ≤ MOST_SIZE) (sym value_b) (subst (λ p. sizes_of q * sizes_of p ≤ MOST_SIZE) (sym made.value) small)

pub rows_of-group-requires-clause-room : goal.rows_of-group-requires-clause-room
rows_of-group-requires-clause-room g c =
    let s = g.S.TermStore.state c.args.s.now in
    let t = g.S.TermStore.state c.copy_part-part.new.s in
    let xs = list_at s.lists (slot_of c.args.a) in
    let q = polynomial_at s c.args.b in
    let part = part_of xs c.args.from c.args.rows in
    let made = c.copy_part-part.ensures in
    let value_b = results.kept-value s t _ c.args.b made.makes c.requires.b in
    let short = results.gives-spare s t _ part made in
    omega (arith, short, c.requires.room)

pub free-requires : goal.free-requires
free-requires g c =
    let s = g.S.TermStore.state c.args.s.now in
    let t = g.S.TermStore.state c.copy_part-part.new.s in
    let xs = list_at s.lists (slot_of c.args.a) in
    let q = polynomial_at s c.args.b in
    let part = part_of xs c.args.from c.args.rows in
    let made = c.copy_part-part.ensures in
    let value_b = results.kept-value s t _ c.args.b made.makes c.requires.b in
    making.makes-other-live _ _ _ _ c.rows_of-group.ensures.made (making.makes-live s t _ made.makes)

pub returns-clause-made : goal.returns-clause-made
returns-clause-made g c =
    let s = g.S.TermStore.state c.args.s.now in
    let t = g.S.TermStore.state c.copy_part-part.new.s in
    let xs = list_at s.lists (slot_of c.args.a) in
    let q = polynomial_at s c.args.b in
    let part = part_of xs c.args.from c.args.rows in
    let made = c.copy_part-part.ensures in
    let value_b = results.kept-value s t _ c.args.b made.makes c.requires.b in
    making.makes-swapped s t (g.S.TermStore.state c.rows_of-group.new.s) (g.S.TermStore.state c.free.new.self) _ _ made.makes c.rows_of-group.ensures.made c.free.ensures.lists c.free.ensures.spare

pub returns-clause-value : goal.returns-clause-value
returns-clause-value g c =
    let s = g.S.TermStore.state c.args.s.now in
    let t = g.S.TermStore.state c.copy_part-part.new.s in
    let xs = list_at s.lists (slot_of c.args.a) in
    let q = polynomial_at s c.args.b in
    let part = part_of xs c.args.from c.args.rows in
    let made = c.copy_part-part.ensures in
    let value_b = results.kept-value s t _ c.args.b made.makes c.requires.b in
    let at = making.makes-swapped-at s t (g.S.TermStore.state c.rows_of-group.new.s) (g.S.TermStore.state c.free.new.self) _ _ made.makes c.rows_of-group.ensures.made c.free.ensures.lists in
    let wa = within-of (polynomial_at s c.args.a) c.requires.a.standard in
    let wb = within-of q c.requires.b.standard in
    ap polynomial_of at ∙ c.rows_of-group.ensures.value ∙ (λ i. poly_product (value_b i) (made.value i))
    ∙ product-comm MOST_VARIABLES q part wb.descending (halving.part-descending MOST_VARIABLES c.args.from c.args.rows xs wa.descending)

use Rattle.std.proofs.Common.{◌≡◌, ◌≤◌, ◌*◌, [], length, sym, ◌∙◌, ap, subst, arith}
use Rattle.poly_model.specs.Polynomial.{poly_product}
use Rattle.poly_model.specs.Standard.{polynomial_of}
use Rattle.poly_model.specs.declared.limits.TheConstants.{MOST_SIZE, MOST_TERMS}
use Rattle.term_store.specs.States.{list_at}
use Rattle.term_store.proofs.Making as making
use Rattle.polynomials.specs.Held.{polynomial_at, slot_of}
use Rattle.polynomials.specs.Sizes.{sizes_of}
use Rattle.polynomials.proofs.Steps as steps
use Rattle.polynomials.proofs.Outcomes as outcomes
use Rattle.polynomials.proofs.Halving as halving
use Rattle.polynomials.proofs.halves.rows_of.Goals as goal

pub returns-then-count-eq0-clause-made : goal.returns-then-count-eq0-clause-made
returns-then-count-eq0-clause-made g c = (making.makes-fresh (g.S.TermStore.state c.args.s.now) (g.S.TermStore.state c.fresh.new.self) _ c.fresh.ensures.vacant c.fresh.ensures.lists c.fresh.ensures.spare).0

pub returns-then-count-eq0-clause-value : goal.returns-then-count-eq0-clause-value
returns-then-count-eq0-clause-value g c =
    let s = g.S.TermStore.state c.args.s.now in
    let m = making.makes-fresh (g.S.TermStore.state c.args.s.now) (g.S.TermStore.state c.fresh.new.self) _ c.fresh.ensures.vacant c.fresh.ensures.lists c.fresh.ensures.spare in
    let none : polynomial_at s c.args.a ≡ [] = halving.none-of (list_at s.lists (slot_of c.args.a)) (omega arith) in
    ap polynomial_of m.1 ∙ sym (ap (λ p. poly_product p (polynomial_at s c.args.b)) none)

pub by_halves-requires-clause-sizes : goal.by_halves-requires-clause-sizes
by_halves-requires-clause-sizes g c =
    let s = g.S.TermStore.state c.args.s.now in
    let xs = list_at s.lists (slot_of c.args.a) in
    let all = halving.part-whole xs c.len-count.result c.len-count.ensures in
    subst (λ p. sizes_of p * sizes_of (polynomial_at s c.args.b) ≤ MOST_SIZE) (sym all) c.requires.sizes

pub by_halves-requires-clause-room : goal.by_halves-requires-clause-room
by_halves-requires-clause-room g c =
    let s = g.S.TermStore.state c.args.s.now in
    let xs = list_at s.lists (slot_of c.args.a) in
    let same : length (polynomial_of xs) ≡ c.len-count.result = steps.polynomial-length xs ∙ sym c.len-count.ensures in
    let few : c.len-count.result * length (polynomial_at s c.args.b) ≤ MOST_TERMS = subst (λ n. n * length (polynomial_at s c.args.b) ≤ MOST_TERMS) same c.requires.terms in
    let short = outcomes.few s (slot_of c.args.a) c.requires.a.standard in
    omega (arith, few, short, c.len-count.ensures, c.requires.room)

pub returns-clause-value : goal.returns-clause-value
returns-clause-value g c =
    let s = g.S.TermStore.state c.args.s.now in
    let xs = list_at s.lists (slot_of c.args.a) in
    c.by_halves.ensures.value ∙ ap (λ p. poly_product p (polynomial_at s c.args.b)) (halving.part-whole xs c.len-count.result c.len-count.ensures)

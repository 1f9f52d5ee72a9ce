use Rattle.std.proofs.Common.{◌≡◌, ◌≤◌, ◌*◌, length, sym, ◌∙◌, subst}
use Rattle.std.specs.Prelude.{Ok}
use Rattle.poly_model.specs.Polynomial.{poly_product}
use Rattle.poly_model.specs.Bounded.{bounded_product}
use Rattle.poly_model.specs.declared.limits.TheConstants.{MOST_VARIABLES, MOST_TERMS}
use Rattle.poly_model.proofs.Within.{within-of, bounded_product-standard}
use Rattle.term_store.specs.States.{list_at}
use Rattle.polynomials.specs.Held.{polynomial_at, slot_of}
use Rattle.polynomials.proofs.Steps as steps
use Rattle.polynomials.proofs.Outcomes as outcomes
use Rattle.polynomials.proofs.Unlimited.{unlimited}
use Rattle.polynomials.proofs.product.mul_rows.Goals as goal

pub is_unlimited-requires-clause-short_a : goal.is_unlimited-requires-clause-short_a
is_unlimited-requires-clause-short_a g c = outcomes.few (g.S.TermStore.state c.args.s.now) (slot_of c.args.a) c.requires.a.standard

pub is_unlimited-requires-clause-short_b : goal.is_unlimited-requires-clause-short_b
is_unlimited-requires-clause-short_b g c = outcomes.few (g.S.TermStore.state c.args.s.now) (slot_of c.args.b) c.requires.b.standard

pub unlimited_product-slot-requires-clause-terms : goal.unlimited_product-slot-requires-clause-terms
unlimited_product-slot-requires-clause-terms g c =
    let s = g.S.TermStore.state c.args.s.now in
    let first = steps.polynomial-length (list_at s.lists (slot_of c.args.a)) in
    let second = steps.polynomial-length (list_at s.lists (slot_of c.args.b)) in
    subst (λ n. n * length (polynomial_at s c.args.b) ≤ MOST_TERMS) (sym first)
    (subst (λ n. length (list_at s.lists (slot_of c.args.a)) * n ≤ MOST_TERMS) (sym second) (c.is_unlimited.ensures.terms c.if-is_unlimited.true))

pub returns-then-is_unlimited : goal.returns-then-is_unlimited
returns-then-is_unlimited g c =
    let s = g.S.TermStore.state c.args.s.now in
    let a = polynomial_at s c.args.a in
    let b = polynomial_at s c.args.b in
    let wa = within-of a c.requires.a.standard in
    let wb = within-of b c.requires.b.standard in
    let first = steps.polynomial-length (list_at s.lists (slot_of c.args.a)) in
    let second = steps.polynomial-length (list_at s.lists (slot_of c.args.b)) in
    let terms = subst (λ n. n * length b ≤ MOST_TERMS) (sym first)
    (subst (λ n. length (list_at s.lists (slot_of c.args.a)) * n ≤ MOST_TERMS) (sym second) (c.is_unlimited.ensures.terms c.if-is_unlimited.true)) in
    let whole : bounded_product a b ≡ Ok (poly_product a b) =
    outcomes.product-rows a b c.requires.fit ∙ unlimited MOST_VARIABLES a b wa.descending wb.descending (c.is_unlimited.ensures.sizes c.if-is_unlimited.true) terms in
    outcomes.answers-ok _ _ _ (poly_product a b) (bounded_product a b) whole c.unlimited_product-slot.ensures.made c.unlimited_product-slot.ensures.value
    (bounded_product-standard a b (poly_product a b) c.requires.a.standard c.requires.b.standard whole)

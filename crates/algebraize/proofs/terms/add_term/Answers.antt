use Rattle.std.proofs.Common.{◌≡◌, sym, ◌∙◌, ap, subst, arith, refl, true, false}
use Rattle.std.proofs.lemmas.Int.{ints, to_z-of_z}
use mir.Syntax.{w128}
use mir.Val.{SFits, to_z, of_z}
use Rattle.poly_model.specs.Standard.{polynomial_of}
use Rattle.algebraize.proofs.Changes as changes
use Rattle.algebraize.specs.Terms.{Stops, StandsAt}
use Rattle.algebraize.proofs.terms.add_term.Goals as goal

pub add_coefficient-requires-clause-place : goal.add_coefficient-requires-clause-place
add_coefficient-requires-clause-place c =
    changes.stands-below c.args.term.exps c.args.terms.now.items c.terms_above-place.result
    (subst (λ ts. StandsAt c.args.term.exps ts c.terms_above-place.result) c.deref-2.ensures.value (c.stands_at.ensures.0 c.if-stands_at.true))

pub returns-then-stands_at : goal.returns-then-stands_at
returns-then-stands_at c =
    let fits : SFits w128 c.args.term.coef = omega (arith, ints, c.requires) in
    simp to_z-of_z at c.add_coefficient.ensures
    ∙ changes.combined c.args.term.exps c.args.term.coef c.args.terms.now.items c.terms_above-place.result
    (subst (λ ts. Stops c.args.term.exps ts c.terms_above-place.result) c.deref.ensures.value c.terms_above-place.ensures.stops)
    (subst (λ ts. StandsAt c.args.term.exps ts c.terms_above-place.result) c.deref-2.ensures.value (c.stands_at.ensures.0 c.if-stands_at.true))

pub returns-in_ok-insert : goal.returns-in_ok-insert
returns-in_ok-insert c =
    ap polynomial_of c.in_ok-insert.ensures.items
    ∙ changes.inserted c.args.term.exps c.args.term.coef c.args.terms.now.items c.terms_above-place.result c.args.term
    (subst (λ ts. Stops c.args.term.exps ts c.terms_above-place.result) c.deref.ensures.value c.terms_above-place.ensures.stops)
    (λ stands. let t : true ≡ false = sym (c.stands_at.ensures.1 (subst (λ ts. StandsAt c.args.term.exps ts c.terms_above-place.result) (sym c.deref-2.ensures.value) stands)) ∙ c.if-stands_at.false in absurd (cc))
    (λ e. c.if-term-ne0.true (ap (of_z w128) e)) refl refl

pub returns-else-term-ne0 : goal.returns-else-term-ne0
returns-else-term-ne0 c =
    let fits : SFits w128 c.args.term.coef = omega (arith, ints, c.requires) in
    changes.kept c.args.term.exps c.args.term.coef c.args.terms.now.items c.terms_above-place.result
    (subst (λ ts. Stops c.args.term.exps ts c.terms_above-place.result) c.deref.ensures.value c.terms_above-place.ensures.stops)
    (λ stands. let t : true ≡ false = sym (c.stands_at.ensures.1 (subst (λ ts. StandsAt c.args.term.exps ts c.terms_above-place.result) (sym c.deref-2.ensures.value) stands)) ∙ c.if-stands_at.false in absurd (cc))
    (sym (to_z-of_z w128 c.args.term.coef fits) ∙ ap (to_z w128) c.if-term-ne0.false)

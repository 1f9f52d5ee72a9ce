use Rattle.std.proofs.Common.{◌≡◌, sym, ◌∙◌, ap, subst, arith, pos}
use Rattle.std.specs.Prelude.{◌+ℤ◌}
use Rattle.std.proofs.lemmas.Int.{ints, to_z-of_z}
use mir.Syntax.{w128}
use mir.Val.{SFits, to_z, of_z}
use Rattle.polynomials.specs.Summed.{term_or_none}
use Rattle.term_store.specs.Changes.{Extends}
use Rattle.term_store.proofs.Making as making
use Rattle.polynomials.proofs.rows.push_sum.Goals as goal

pub returns-else-coef-ne0-clause-added : goal.returns-else-coef-ne0-clause-added
returns-else-coef-ne0-clause-added g c = λ t.
    let x = c.args.x.now.coef in
    let y = c.args.y.now.coef in
    let fits_x : SFits w128 x = omega (arith, ints, c.requires.x) in
    let fits_y : SFits w128 y = omega (arith, ints, c.requires.y) in
    let h = simp to_z-of_z at c.in-Some.ensures in
    let fits : SFits w128 (x +ℤ y) = omega (arith, ints, h.0) in
    let none : x +ℤ y ≡ pos 0 = sym (to_z-of_z w128 (x +ℤ y) fits) ∙ ap (λ z. to_z w128 (of_z w128 z)) (sym h.1) ∙ ap (to_z w128) c.if-coef-ne0.false in
    (h.0, subst (Extends (g.S.TermStore.state c.args.s.now) (g.S.TermStore.state c.args.s.now) c.args.out.0) (ap (term_or_none c.args.y.now.exps) (sym none)) (making.extends-none _ _ c.requires.new c.requires.newest))

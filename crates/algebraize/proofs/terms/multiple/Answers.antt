use Rattle.std.proofs.Common.{◌≢◌, sym, ◌∙◌, ap}
use Rattle.std.specs.Prelude.{pos}
use Rattle.std.proofs.lemmas.Int.{to_z-of_z}
use mir.Syntax.{w128}
use mir.Val.{SFits, to_z, of_z}
use Rattle.poly_model.specs.Polynomial.{poly_scaled}
use Rattle.poly_model.specs.Standard.{polynomial_of}
use Rattle.algebraize.proofs.Multiples.{multiple-none, multiple-some}
use Rattle.algebraize.proofs.Changes.{if_ok}
use Rattle.algebraize.proofs.terms.multiple.Goals as goal

pub returns-then-factor-eq0 : goal.returns-then-factor-eq0
returns-then-factor-eq0 c =
    let fits : SFits w128 c.args.factor = c.ranges.factor in
    ap polynomial_of c.new.ensures.items
    ∙ sym (multiple-none c.args.factor (polynomial_of c.args.p.now) (sym (to_z-of_z w128 c.args.factor fits) ∙ ap (to_z w128) c.if-factor-eq0.true))

pub returns : goal.returns
returns c =
    let fits : SFits w128 c.args.factor = c.ranges.factor in
    let some : c.args.factor ≢ pos 0 = λ e. c.if-factor-eq0.false (ap (of_z w128) e) in
    if_ok c.scaled.result
    (λ r is. is ∙ ap (λ z. poly_scaled z (polynomial_of c.args.p.now)) (to_z-of_z w128 c.args.factor fits)
    ∙ sym (multiple-some c.args.factor (polynomial_of c.args.p.now) some c.requires.descending))
    c.scaled.ensures

use Rattle.std.proofs.Common.{List, ◌∷◌, ◌++◌, [], ◌∙◌, ap, arith, replicate}
use Rattle.std.specs.Prelude.{ℤ}
use mir.Syntax.{w128}
use mir.Val.{to_z}
use Rattle.std.proofs.lemmas.Int.{to_z_pos}
use Rattle.poly_model.specs.Polynomial.{Polynomial}
use Rattle.poly_model.specs.Standard.{polynomial_of}
use Rattle.poly_model.specs.declared.term.Term.{Term}
use Rattle.poly_model.specs.declared.limits.TheConstants.{MOST_VARIABLES}
use Rattle.ratio_eq.proofs.Numbers.{natural-some}
use Rattle.ratio_eq.proofs.arith.constant_terms.Goals as goal

pub returns-clause-terms : goal.returns-clause-terms
returns-clause-terms c =
    let t : Term = record { coef = to_z w128 c.args.k; exps = replicate MOST_VARIABLES 0 } in
    let one : ℤ → Polynomial = λ z. (replicate MOST_VARIABLES 0, z) ∷ [] in
    ap polynomial_of (c.in_ok-push.ensures.items ∙ ap (λ (l : List Term). l ++ t ∷ []) c.new-terms.ensures.items)
    ∙ ap one (to_z_pos w128 c.args.k (omega (arith, c.ranges.k.fits)))
    ∙ natural-some c.args.k c.if-k-eq0.false

use Rattle.std.proofs.Common.{sym, ◌∙◌, ap}
use Rattle.std.specs.Cmp.{both_ways}
use Rattle.poly_model.specs.Standard.{polynomial_of}
use Rattle.poly_model.specs.Equality.{same-is, is-same}
use Rattle.poly_model.proofs.Same.{polynomial_of-injective}
use Rattle.poly_model.proofs.owned.OwnedPolyPartialEq.eq.Goals as goal

pub returns : goal.returns
returns c =
    let h = c.same_terms.ensures in
    let a = ap polynomial_of c.deref.ensures.value ∙ c.self.view_is in
    let b = ap polynomial_of c.deref-2.ensures.value ∙ c.other.view_is in
    both_ways _ _
    (λ t. is-same _ _ (sym a ∙ ap polynomial_of (h.0 t) ∙ b))
    (λ t. h.1 (polynomial_of-injective _ _ (a ∙ same-is _ _ t ∙ sym b)))

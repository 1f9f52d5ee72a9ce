use Rattle.std.proofs.Common.{sym, ◌∙◌}
use Rattle.poly_model.specs.Equality.{same-is, is-same}
use Rattle.poly_model.proofs.owned.OwnedPoly.equals.Goals as goal

pub returns : goal.returns
returns c = ((λ t. same-is _ _ (sym c.eq.ensures ∙ t)), (λ e. c.eq.ensures ∙ is-same _ _ e))

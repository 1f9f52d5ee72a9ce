use Rattle.std.proofs.lemmas.Slice.Eq.{slice_eq-Decides}
use Rattle.poly_model.proofs.Same.{term_decides}
use Rattle.poly_model.proofs.owned.same_terms.Goals as goal

pub returns : goal.returns
returns c = slice_eq-Decides term_decides _ _ _ c.eq.ensures

use Rattle.std.proofs.Common.{IsTrue, sym, subst}
use Rattle.poly_model.specs.Standard.{are_bounded}
use Rattle.poly_model.proofs.Within.{within-of}
use Rattle.sample_point.proofs.evaluation.value.Goals as goal

pub plus_terms-requires-clause-terms : goal.plus_terms-requires-clause-terms
plus_terms-requires-clause-terms c = subst (λ q. IsTrue (are_bounded q)) (sym c.terms.ensures.terms) (within-of c.args.p.now c.terms.ensures.standard).bounded

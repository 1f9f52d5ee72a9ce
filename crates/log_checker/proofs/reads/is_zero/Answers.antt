use Rattle.std.proofs.Common.{◌∙◌, ap}
use Rattle.poly_model.specs.Reduction.{is_zero}
use Rattle.log_checker.proofs.Terms as reads
use Rattle.log_checker.proofs.reads.is_zero.Goals as goal

pub returns : goal.returns
returns c = c.is_empty.ensures ∙ reads.zero-tells c.terms.result.now (ap Rattle.poly_model.specs.Standard.is_standard c.terms.ensures.terms ∙ c.terms.ensures.standard) ∙ ap is_zero c.terms.ensures.terms

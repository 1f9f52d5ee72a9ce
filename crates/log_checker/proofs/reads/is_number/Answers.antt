use Rattle.std.proofs.Common.{◌∙◌, ap, sym}
use Rattle.std.specs.Prelude.{◌==◌}
use Rattle.poly_model.specs.Reduction.{class_of, is_nonzero_constant}
use Rattle.poly_model.specs.Standard.{is_standard}
use Rattle.log_checker.proofs.Terms as reads
use Rattle.log_checker.proofs.reads.is_number.Goals as goal

pub returns-then-not-is_empty : goal.returns-then-not-is_empty
returns-then-not-is_empty c =
    ap (λ n. n == 0) (c.class_number.ensures.class ∙ sym (ap class_of c.terms.ensures.terms))
    ∙ reads.number-tells c.terms.result.now (ap is_standard c.terms.ensures.terms ∙ c.terms.ensures.standard) (sym c.is_empty.ensures ∙ c.if-not-is_empty.true)
    ∙ ap is_nonzero_constant c.terms.ensures.terms

use Rattle.std.proofs.Common.{◌≡◌, length, ap, sym, ◌∙◌, arith}
use Rattle.std.proofs.lemmas.List.{length-map}
use Rattle.poly_model.specs.Standard.{entry_of}
use Rattle.log_checker.proofs.Terms as reads
use Rattle.log_checker.proofs.reads.term_count.Goals as goal

pub returns-clause-few : goal.returns-clause-few
returns-clause-few c =
    let e : length c.args.p.now ≡ length c.terms.result.now = sym (ap length c.terms.ensures.terms) ∙ length-map c.terms.result.now entry_of in
    let h = reads.few-terms c.args.p.now c.terms.ensures.standard in
    omega (arith, e, h)

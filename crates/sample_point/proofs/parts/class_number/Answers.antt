use Rattle.std.proofs.Common.{◌≡◌, ◌∙◌, ◌+◌, ◌≤◌, ap, sym, arith, suc}
use Rattle.poly_model.specs.Reduction.{class_of}
use Rattle.poly_model.specs.Standard.{is_standard}
use Rattle.poly_model.specs.declared.limits.TheConstants.{MOST_VARIABLES}
use Rattle.sample_point.proofs.Terms as reads
use Rattle.sample_point.proofs.parts.class_number.Goals as goal

class : (c : goal.In-Some) → suc c.in-Some.place ≡ class_of c.args.p.now
class c =
    c.in-Some.ensures
    ∙ reads.first-class c.terms-terms.result.now _ (sym c.is_empty.ensures ∙ c.if-is_empty.false) (ap is_standard c.terms-terms.ensures.terms ∙ c.terms-terms.ensures.standard)
    ∙ ap class_of c.terms-terms.ensures.terms

few : (c : goal.In-Some) → c.in-Some.place + 1 ≤ MOST_VARIABLES
few c = let e = class c in let h = reads.few-classes c.args.p.now c.terms-terms.ensures.standard in omega (arith, e, h)

pub overflow_add-result : goal.overflow_add-result
overflow_add-result c = let h = few c in omega (arith, h)

pub returns-in-None-clause-class : goal.returns-in-None-clause-class
returns-in-None-clause-class c =
    c.in-None.ensures ∙ reads.first-class c.terms-terms.result.now _ (sym c.is_empty.ensures ∙ c.if-is_empty.false) (ap is_standard c.terms-terms.ensures.terms ∙ c.terms-terms.ensures.standard) ∙ ap class_of c.terms-terms.ensures.terms

pub returns-in-Some-clause-class : goal.returns-in-Some-clause-class
returns-in-Some-clause-class c = let e = class c in omega (arith, e)

pub returns-in-Some-clause-within : goal.returns-in-Some-clause-within
returns-in-Some-clause-within c = few c

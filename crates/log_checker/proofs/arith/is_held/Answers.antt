use Rattle.std.proofs.Common.{true, false, not, ◌≡◌, [], get_or, refl, sym, ◌∙◌, ap, arith}
use Rattle.std.specs.Prelude.{pos}
use Rattle.std.proofs.lemmas.Bool.{not-false}
use Rattle.poly_model.specs.Reduction.{same}
use Rattle.poly_model.specs.Standard.{polynomial_of}
use Rattle.poly_model.specs.declared.term.Term.{Term}
use Rattle.poly_model.proofs.Same.{term_decides}
use Rattle.term_store.specs.States.{list_at}
use Rattle.polynomials.proofs.Reading as reading
use Rattle.log_checker.proofs.Dues as dues
use Rattle.log_checker.proofs.arith.is_held.Goals as goal

pub returns-then-count-terms : goal.returns-then-count-terms
returns-then-count-terms g c =
    let L = (g.S.TermStore.state c.args.s.now).lists in
    sym (reading.same-longer (list_at L c.slot-slot.result.0) c.terms-terms.result.now (λ e. omega (arith, e))) ∙ (λ i. same (polynomial_of (list_at L (c.slot-slot.ensures i))) (c.terms-terms.ensures.terms i))

pub returns-then-ne : goal.returns-then-ne
returns-then-ne g c =
    let L = (g.S.TermStore.state c.args.s.now).lists in
    let ts = c.terms-terms.result.now in
    let t = c.get.result in
    let u : Term = get_or ts c.loop-i.i (record { coef = pos 0; exps = [] }) in
    sym (reading.same-differs (list_at L c.slot-slot.result.0) ts c.loop-i.i t u (omega arith) c.get.ensures (dues.there ts c.loop-i.i _ u u (omega arith) refl)
    (λ h. let f : true ≡ false = sym c.if-ne.true ∙ c.ne.ensures ∙ ap not ((term_decides t u).1 h) in cc))
    ∙ (λ i. same (polynomial_of (list_at L (c.slot-slot.ensures i))) (c.terms-terms.ensures.terms i))

pub loop-i-preserved : goal.loop-i-preserved
loop-i-preserved g c =
    let xs = list_at (g.S.TermStore.state c.args.s.now).lists c.slot-slot.result.0 in
    let ts = c.terms-terms.result.now in
    let t = c.get.result in
    let u : Term = get_or ts c.loop-i.i (record { coef = pos 0; exps = [] }) in
    let one = (term_decides t u).0 (not-false _ (sym c.ne.ensures ∙ c.if-ne.false)) in
    reading.same-next xs ts c.loop-i.i t u (omega arith) c.get.ensures (omega arith) (dues.there ts c.loop-i.i _ u u (omega arith) refl) one ∙ c.loop-i.invariant

pub returns : goal.returns
returns g c =
    let L = (g.S.TermStore.state c.args.s.now).lists in
    sym (reading.same-end (list_at L c.slot-slot.result.0) c.terms-terms.result.now c.loop-i.i (omega arith) (omega arith)) ∙ c.loop-i.invariant
    ∙ (λ i. same (polynomial_of (list_at L (c.slot-slot.ensures i))) (c.terms-terms.ensures.terms i))

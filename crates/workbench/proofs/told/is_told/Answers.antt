use Rattle.std.proofs.Common.{true, false, not, ◌≡◌, ◌<◌, ℕ, zero, suc, List, [], ◌∷◌, length, get_or, refl, sym, ◌∙◌, ap, arith}
use Rattle.std.specs.Prelude.{pos}
use Rattle.std.proofs.lemmas.Bool.{not-false}
use Rattle.poly_model.specs.Reduction.{same}
use Rattle.poly_model.specs.Standard.{polynomial_of}
use Rattle.poly_model.specs.declared.term.Term.{Term}
use Rattle.poly_model.proofs.Same.{term_decides}
use Rattle.term_store.specs.States.{list_at}
use Rattle.polynomials.proofs.Reading as reading
use Rattle.workbench.proofs.told.is_told.Goals as goal

-- what stands at a place does not depend on the value past the end
there : (xs : List Term) (k : ℕ) (d e x : Term) → k < length xs → x ≡ get_or xs k d → x ≡ get_or xs k e
there [] k d e x h q = absurd (omega (arith, h))
there (y ∷ ys) zero d e x h q = q
there (y ∷ ys) (suc k) d e x h q = there ys k d e x (omega (arith, h)) q

pub returns-then-count-terms : goal.returns-then-count-terms
returns-then-count-terms g c =
    let L = (g.S.TermStore.state c.args.s.now).lists in
    sym (reading.same-longer c.terms-terms.result.now (list_at L c.slot-slot.result.0) (λ e. omega (arith, e))) ∙ (λ i. same (c.terms-terms.ensures.terms i) (polynomial_of (list_at L (c.slot-slot.ensures i))))

pub returns-then-ne : goal.returns-then-ne
returns-then-ne g c =
    let L = (g.S.TermStore.state c.args.s.now).lists in
    let ts = c.terms-terms.result.now in
    let t = c.get.result in
    let u : Term = get_or ts c.loop-i.i (record { coef = pos 0; exps = [] }) in
    sym (reading.same-differs ts (list_at L c.slot-slot.result.0) c.loop-i.i u t (omega arith) (there ts c.loop-i.i _ u u (omega arith) refl) c.get.ensures
    (λ h. let f : true ≡ false = sym c.if-ne.true ∙ c.ne.ensures ∙ ap not ((term_decides u t).1 h) in cc))
    ∙ (λ i. same (c.terms-terms.ensures.terms i) (polynomial_of (list_at L (c.slot-slot.ensures i))))

pub loop-i-preserved : goal.loop-i-preserved
loop-i-preserved g c =
    let xs = list_at (g.S.TermStore.state c.args.s.now).lists c.slot-slot.result.0 in
    let ts = c.terms-terms.result.now in
    let t = c.get.result in
    let u : Term = get_or ts c.loop-i.i (record { coef = pos 0; exps = [] }) in
    let one = (term_decides u t).0 (not-false _ (sym c.ne.ensures ∙ c.if-ne.false)) in
    reading.same-next ts xs c.loop-i.i u t (omega arith) (there ts c.loop-i.i _ u u (omega arith) refl) (omega arith) c.get.ensures one ∙ c.loop-i.invariant

pub returns : goal.returns
returns g c =
    let L = (g.S.TermStore.state c.args.s.now).lists in
    sym (reading.same-end c.terms-terms.result.now (list_at L c.slot-slot.result.0) c.loop-i.i (omega arith) (omega arith)) ∙ c.loop-i.invariant
    ∙ (λ i. same (c.terms-terms.ensures.terms i) (polynomial_of (list_at L (c.slot-slot.ensures i))))

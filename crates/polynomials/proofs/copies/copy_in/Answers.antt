use Rattle.std.proofs.Common.{◌++◌, ◌∷◌, [], ◌+◌, drop, get_or, sym, ◌∙◌, ap, arith, append_assoc}
use Rattle.std.specs.Prelude.{pos}
use Rattle.poly_model.specs.declared.term.Term.{Term}
use Rattle.term_store.specs.States.{list_at}
use Rattle.term_store.proofs.Making as making
use Rattle.polynomials.proofs.Steps as steps
use Rattle.polynomials.proofs.copies.copy_in.Goals as goal

pub loop-i-init : goal.loop-i-init
loop-i-init g c =
    let m = making.makes-fresh _ _ _ c.fresh-out.ensures.vacant c.fresh-out.ensures.lists c.fresh-out.ensures.spare in
    record { made = m.0; newest = c.fresh-out.ensures.newest; value = ap (λ l. l ++ c.terms-terms.result.now) m.1 }

pub loop-i-preserved : goal.loop-i-preserved
loop-i-preserved g c =
    let terms = c.terms-terms.result.now in
    let out = list_at (g.S.TermStore.state c.loop-i.s).lists c.fresh-out.result.0 in
    let i = c.loop-i.i in
    let t : Term = get_or terms i record { coef = pos 0; exps = [] } in
    let at = steps.own-item terms i record { coef = pos 0; exps = [] } (omega arith) in
    let m = making.makes-push _ _ _ _ t c.loop-i.invariant.made c.push.ensures.lists c.push.ensures.spare in
    record {
      made = m.0;
      newest = c.push.ensures.newest;
      value = ap (λ l. l ++ drop (i + 1) terms) m.1 ∙ append_assoc out (t ∷ []) (drop (i + 1) terms) ∙ ap (λ l. out ++ l) (sym (steps.dropped terms i t (omega arith) at)) ∙ c.loop-i.invariant.value;
    }

use Rattle.std.proofs.Common.{sym, ◌∙◌, subst, arith, add-one}
use Rattle.algebraize.proofs.Changes as changes
use Rattle.algebraize.proofs.Changes.{AreAbove}
use Rattle.algebraize.proofs.terms.terms_above.Goals as goal

pub loop-count-preserved : goal.loop-count-preserved
loop-count-preserved c =
    subst (λ k. AreAbove c.args.exps.now c.args.terms.now k) (sym (add-one c.loop-count.count))
    (changes.one_more c.args.exps.now c.args.terms.now c.loop-count.count _ c.loop-count.invariant c.loop-count-test.true
    (sym c.compare_monomials.ensures ∙ changes.less-from _ (sym c.is_lt.ensures ∙ c.if-is_lt.true)))

pub returns-else-is_lt : goal.returns-else-is_lt
returns-else-is_lt c = record {
  stops = changes.stops-here c.args.exps.now c.args.terms.now c.loop-count.count _ c.loop-count.invariant c.loop-count-test.true
      (λ e. changes.not-less-from _ (sym c.is_lt.ensures ∙ c.if-is_lt.false) (c.compare_monomials.ensures ∙ e));
  within = changes.above-length c.args.exps.now c.args.terms.now c.loop-count.count c.loop-count.invariant;
}

pub returns-after-loop-count : goal.returns-after-loop-count
returns-after-loop-count c = record {
  stops = changes.stops-end c.args.exps.now c.args.terms.now c.loop-count.count c.loop-count.invariant (omega arith);
  within = changes.above-length c.args.exps.now c.args.terms.now c.loop-count.count c.loop-count.invariant;
}

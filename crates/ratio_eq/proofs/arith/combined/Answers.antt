use Rattle.std.proofs.Common.{Ok, sym, ◌∙◌, ap}
use Rattle.term_store.specs.Holding.{held_by}
use Rattle.polynomials.proofs.Results as results
use Rattle.ratio_eq.specs.Outcomes.{bounded_by}
use Rattle.ratio_eq.proofs.arith.combined.Goals as goal

pub combine-requires-clause-a : goal.combine-requires-clause-a
combine-requires-clause-a c = results.kept-poly _ _ _ _ c.copy_in-second.ensures.makes (results.made-poly _ _ _ _ c.copy_in-first.ensures)

pub combine-requires-clause-b : goal.combine-requires-clause-b
combine-requires-clause-b c = results.made-poly _ _ _ _ c.copy_in-second.ensures

pub copy_out-requires : goal.copy_out-requires
copy_out-requires c = results.made-poly _ _ _ _ (results.answers-some _ _ _ _ c.in-Ok.ensures).2

pub returns-in-Ok : goal.returns-in-Ok
returns-in-Ok c =
    let t = held_by c.copy_in-first.new.s in
    let u = held_by c.copy_in-second.new.s in
    let a = results.kept-value t u _ c.copy_in-first.result c.copy_in-second.ensures.makes (results.made-poly _ _ _ _ c.copy_in-first.ensures) ∙ c.copy_in-first.ensures.value in
    let made = results.answers-some _ _ _ _ c.in-Ok.ensures in
    (λ i. bounded_by c.args.by (sym a i) (sym c.copy_in-second.ensures.value i)) ∙ made.1 ∙ ap Ok (sym made.2.value ∙ sym c.in_ok-copy_out-in-Ok.ensures)

pub returns : goal.returns
returns c =
    let t = held_by c.copy_in-first.new.s in
    let u = held_by c.copy_in-second.new.s in
    let a = results.kept-value t u _ c.copy_in-first.result c.copy_in-second.ensures.makes (results.made-poly _ _ _ _ c.copy_in-first.ensures) ∙ c.copy_in-first.ensures.value in
    (λ i. bounded_by c.args.by (sym a i) (sym c.copy_in-second.ensures.value i)) ∙ (results.answers-limited _ _ _ _ c.in-Err.ensures).0

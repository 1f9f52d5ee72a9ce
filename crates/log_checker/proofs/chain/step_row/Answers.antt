use Rattle.std.proofs.Common.{◌∙◌, ap, sym, subst, ◌+◌, ◌-◌, ◌∷◌, length, drop, suc}
use Rattle.log_checker.specs.Fitting.{Chaining, listed, where_fits}
use Rattle.log_checker.specs.Turns.{IsDue}
use Rattle.log_checker.proofs.Chains as chains
use Rattle.log_checker.proofs.chain.step_row.Goals as goal

pub returns-in_default : goal.returns-in_default
returns-in_default g c =
    let y = c.args.system in
    chains.not-due y.lists.eqs y.cons y.done y.fuel c.args.told c.system_due.result c.system_due.ensures c.in_default.not-Reduce

pub step_fits-requires-clause-at : goal.step_fits-requires-clause-at
step_fits-requires-clause-at g c = (subst (IsDue c.args.system.lists.eqs c.args.system.cons c.args.system.done) c.in-Reduce.is c.system_due.ensures).1

pub step_fits-requires-clause-reduces : goal.step_fits-requires-clause-reduces
step_fits-requires-clause-reduces g c = (subst (IsDue c.args.system.lists.eqs c.args.system.cons c.args.system.done) c.in-Reduce.is c.system_due.ensures).2

pub advanced-requires : goal.advanced-requires
advanced-requires g c = (subst (IsDue c.args.system.lists.eqs c.args.system.cons c.args.system.done) c.in-Reduce.is c.system_due.ensures).1

pub returns-then-not-branch : goal.returns-then-not-branch
returns-then-not-branch g c =
    let y = c.args.system in
    let h = subst (IsDue y.lists.eqs y.cons y.done) c.in-Reduce.is c.system_due.ensures in
    ap (λ b. where_fits b (listed (Chaining y.lists.eqs (suc c.in-Reduce.at) (c.args.told.r ∷ drop (suc c.in-Reduce.at) y.cons) (y.fuel - (1 + length c.args.told.r))))) (sym c.if-not-branch.true)
    ∙ chains.fits-row y.lists.eqs y.cons y.done y.fuel c.in-Reduce.at c.in-Reduce.f c.args.told c.in_ok-step_fits.field-0 h.0 c.in_ok-step_fits.ensures

pub returns : goal.returns
returns g c =
    let y = c.args.system in
    let h = subst (IsDue y.lists.eqs y.cons y.done) c.in-Reduce.is c.system_due.ensures in
    chains.listing-is c.advanced.result.lists y.lists _ _ c.advanced.ensures.lists c.advanced.ensures.work c.requires.eqs c.requires.nes
    ∙ ap (λ b. where_fits b (listed (Chaining y.lists.eqs (suc c.in-Reduce.at) (c.args.told.r ∷ drop (suc c.in-Reduce.at) y.cons) (y.fuel - (1 + length c.args.told.r))))) (sym c.if-not-branch.false)
    ∙ chains.fits-row y.lists.eqs y.cons y.done y.fuel c.in-Reduce.at c.in-Reduce.f c.args.told c.in_ok-step_fits.field-0 h.0 c.in_ok-step_fits.ensures

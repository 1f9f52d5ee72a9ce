use Rattle.std.proofs.Common.{◌∙◌, ap, sym, subst, suc, drop, []}
use Rattle.proof_steps.specs.Chain.{due_of}
use Rattle.verdicts.specs.Tallies.{Stops}
use Rattle.log_checker.specs.Fitting.{listed, Ended, where_fits}
use Rattle.log_checker.specs.Turns.{IsTurn}
use Rattle.log_checker.proofs.Chains as chains
use Rattle.log_checker.proofs.chain.unreduced_row.Goals as goal

pub returns-in-None : goal.returns-in-None
returns-in-None g c =
    let y = c.args.system.now in
    chains.no-stop y.lists.eqs y.fuel c.args.k c.args.f c.args.reason (due_of y.lists.eqs (suc y.done) (drop y.done y.cons))
    (subst (IsTurn y.lists.eqs y.cons y.done y.fuel) c.in-None.is c.in_ok-next_turn.ensures)

pub returns-then-is_stop : goal.returns-then-is_stop
returns-then-is_stop g c =
    let y = c.args.system.now in
    ap (λ b. where_fits b (listed (Ended [] (Stops c.args.reason)))) (sym c.if-is_stop.true)
    ∙ chains.stop-is y.lists.eqs y.cons y.done y.fuel c.args.k c.args.f c.args.reason c.in-Some.turn c.is_stop.result (subst (IsTurn y.lists.eqs y.cons y.done y.fuel) c.in-Some.is c.in_ok-next_turn.ensures)
    c.is_stop.ensures

pub returns : goal.returns
returns g c =
    let y = c.args.system.now in
    ap (λ b. where_fits b (listed (Ended [] (Stops c.args.reason)))) (sym c.if-is_stop.false)
    ∙ chains.stop-is y.lists.eqs y.cons y.done y.fuel c.args.k c.args.f c.args.reason c.in-Some.turn c.is_stop.result (subst (IsTurn y.lists.eqs y.cons y.done y.fuel) c.in-Some.is c.in_ok-next_turn.ensures)
    c.is_stop.ensures

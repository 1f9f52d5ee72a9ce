use Rattle.std.proofs.Common.{◌≡◌, ℕ, List, sym, subst}
use Rattle.std.specs.Prelude.{IfOk}
use Rattle.poly_model.specs.Polynomial.{Polynomial}
use Rattle.log_checker.specs.Fitting.{in_piece}
use Rattle.log_checker.specs.Views.{eqs_due, nes_due, chain_work, inside_views}
use Rattle.log_checker.proofs.Chains as chains
use Rattle.log_checker.proofs.Leaves as leaves
use Rattle.log_checker.proofs.leaf.at_system.Goals as goal

pub chain_line-requires-clause-eqs : goal.chain_line-requires-clause-eqs
chain_line-requires-clause-eqs g c =
    let y = c.args.system in (chains.all-told (eqs_due y.lists) (nes_due y.lists) c.is_whole.result c.is_whole.ensures c.if-is_whole.true (chain_work y)).eqs

pub chain_line-requires-clause-nes : goal.chain_line-requires-clause-nes
chain_line-requires-clause-nes g c =
    let y = c.args.system in (chains.all-told (eqs_due y.lists) (nes_due y.lists) c.is_whole.result c.is_whole.ensures c.if-is_whole.true (chain_work y)).nes

pub returns-then-is_whole : goal.returns-then-is_whole
returns-then-is_whole g c =
    let y = c.args.system in
    let told = chains.all-told (eqs_due y.lists) (nes_due y.lists) c.is_whole.result c.is_whole.ensures c.if-is_whole.true (chain_work y) in
    subst (λ i. IfOk c.chain_line.result (λ o. (version : ℕ) (cons : List Polynomial) → inside_views o ≡ in_piece version cons i c.args.line))
    (sym (leaves.listed-is y.lists (chain_work y) told)) c.chain_line.ensures

use Rattle.std.proofs.Common.{◌-◌, suc, ◌++◌, take, drop, ◌∙◌, ap}
use Rattle.log_checker.proofs.Nodes as nodes
use Rattle.log_checker.proofs.node.without.Goals as goal

pub returns : goal.returns
returns c =
    let e = c.from_vec.ensures ∙ c.remove-dropped.ensures.items ∙ ap (λ xs. take (c.args.i - 1) xs ++ drop (suc (c.args.i - 1)) xs) c.into_vec-eqs.ensures ∙ nodes.removed-is (c.args.i - 1) c.args.node.eqs in
    λ i. record { path = c.args.node.path; eqs = e i; nes = c.args.node.nes; fuel = c.saturating_sub.ensures i }

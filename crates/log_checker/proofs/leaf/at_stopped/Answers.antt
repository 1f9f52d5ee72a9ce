use Rattle.std.proofs.Common.{[], ◌∙◌, ap, sym}
use Rattle.verdicts.specs.Tallies.{Stops}
use Rattle.log_checker.specs.Fitting.{Ended, in_piece}
use Rattle.log_checker.specs.Views.{eqs_due, nes_due}
use Rattle.log_checker.proofs.Chains as chains
use Rattle.log_checker.proofs.Leaves as leaves
use Rattle.log_checker.proofs.leaf.at_stopped.Goals as goal

pub returns-then-is_whole : goal.returns-then-is_whole
returns-then-is_whole c version cons =
    let l = c.args.lists in
    let w = Ended [] (Stops c.args.reason) in
    let told = chains.all-told (eqs_due l) (nes_due l) c.is_whole.result c.is_whole.ensures c.if-is_whole.true w in
    leaves.ended-none version cons [] (Stops c.args.reason) c.args.line ∙ ap (λ i. in_piece version cons i c.args.line) (sym (leaves.listed-is l w told))

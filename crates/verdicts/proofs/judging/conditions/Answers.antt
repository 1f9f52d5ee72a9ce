use Rattle.std.proofs.Common.{◌∙◌, ap}
use Rattle.verdicts.proofs.Repeats.{added_all, added-repeats, conditions_from}
use Rattle.verdicts.proofs.judging.conditions.Goals as goal

pub loop-piece-init : goal.loop-piece-init
loop-piece-init c =
    let all = conditions_from c.args.pieces.now c.args.pieces.now in
    ap (λ l. added_all l all) c.new-found.ensures.items ∙ added-repeats all

use Rattle.std.proofs.Common.{◌∙◌}
use Rattle.branch_core.proofs.Replays.{done_by_some}
use Rattle.branch_core.proofs.find.is_done.Goals as goal

pub returns : goal.returns
returns g c = c.some_ends.ensures ∙ done_by_some c.args.path c.args.history.now

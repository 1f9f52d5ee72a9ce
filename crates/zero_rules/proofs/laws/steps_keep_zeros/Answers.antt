use Rattle.zero_rules.proofs.Rules.{step_keeps}
use Rattle.zero_rules.proofs.laws.steps_keep_zeros.Goals as goal

pub returns : goal.returns
returns g c = step_keeps g.D.Domain.laws

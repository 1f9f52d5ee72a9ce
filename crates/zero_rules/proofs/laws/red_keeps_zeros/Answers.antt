use Rattle.zero_rules.proofs.Rules.{red_keeps}
use Rattle.zero_rules.proofs.laws.red_keeps_zeros.Goals as goal

pub returns : goal.returns
returns g c = red_keeps g.D.Domain.laws

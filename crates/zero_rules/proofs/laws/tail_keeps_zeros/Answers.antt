use Rattle.zero_rules.proofs.Rules.{tail_keeps}
use Rattle.zero_rules.proofs.laws.tail_keeps_zeros.Goals as goal

pub returns : goal.returns
returns g c = tail_keeps g.D.Domain.laws

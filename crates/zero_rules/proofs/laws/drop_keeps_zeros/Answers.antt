use Rattle.zero_rules.proofs.Rules.{drop_keeps}
use Rattle.zero_rules.proofs.laws.drop_keeps_zeros.Goals as goal

pub returns : goal.returns
returns g c = drop_keeps g.D.Domain.laws

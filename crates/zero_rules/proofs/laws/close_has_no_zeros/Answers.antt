use Rattle.zero_rules.proofs.Rules.{close_has_none}
use Rattle.zero_rules.proofs.laws.close_has_no_zeros.Goals as goal

pub returns : goal.returns
returns g c = close_has_none g.D.Domain.laws

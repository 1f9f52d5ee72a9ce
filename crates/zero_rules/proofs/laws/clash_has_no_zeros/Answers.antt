use Rattle.zero_rules.proofs.Rules.{clash_has_none}
use Rattle.zero_rules.proofs.laws.clash_has_no_zeros.Goals as goal

pub returns : goal.returns
returns g c = clash_has_none g.D.Domain.laws

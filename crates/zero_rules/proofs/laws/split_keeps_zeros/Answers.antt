use Rattle.zero_rules.proofs.Rules.{split_keeps}
use Rattle.zero_rules.proofs.laws.split_keeps_zeros.Goals as goal

pub returns : goal.returns
returns g c = split_keeps g.D.Domain.laws g.D.Domain.zero_or_not

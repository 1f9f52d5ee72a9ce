use Rattle.zero_rules.proofs.Rules.{rule_keeps}
use Rattle.zero_rules.proofs.laws.rules_keep_zeros.Goals as goal

pub returns : goal.returns
returns g c = rule_keeps g.D.Domain.laws g.D.Domain.zero_or_not

use Rattle.placement.proofs.ClaimsCarried as law
use Rattle.placement.proofs.laws.carried_is_met.Goals as goal

pub returns : goal.returns
returns c = law.carried_is_met

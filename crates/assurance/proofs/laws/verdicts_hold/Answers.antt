use Rattle.assurance.proofs.Claim.{verdict_holds}
use Rattle.assurance.proofs.laws.verdicts_hold.Goals as goal

pub returns : goal.returns
returns g c = verdict_holds g.D.Domain.laws g.D.Domain.zero_or_not

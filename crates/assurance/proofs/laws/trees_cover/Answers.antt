use Rattle.assurance.proofs.Claim.{tree_covers}
use Rattle.assurance.proofs.laws.trees_cover.Goals as goal

pub returns : goal.returns
returns g c = tree_covers g.D.Domain.laws g.D.Domain.zero_or_not

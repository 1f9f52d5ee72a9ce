use Rattle.placement.proofs.Placed as law
use Rattle.placement.proofs.laws.placement_keeps_constructions.Goals as goal

pub returns : goal.returns
returns g c = law.constructions g.D.Domain.laws

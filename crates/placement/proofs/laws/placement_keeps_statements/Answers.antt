use Rattle.placement.proofs.Placed as law
use Rattle.placement.proofs.laws.placement_keeps_statements.Goals as goal

pub returns : goal.returns
returns g c = law.statements g.D.Domain.laws

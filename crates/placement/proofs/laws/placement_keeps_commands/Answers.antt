use Rattle.placement.proofs.Placed as law
use Rattle.placement.proofs.laws.placement_keeps_commands.Goals as goal

pub returns : goal.returns
returns g c = law.commands g.D.Domain.laws

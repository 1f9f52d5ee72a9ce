use Rattle.placement.proofs.Placed as law
use Rattle.placement.proofs.laws.one_free_point_is_moved.Goals as goal

pub returns : goal.returns
returns g c = law.one_free_point g.D.Domain.laws

use Rattle.sample_point.proofs.Branch as branch
use Rattle.sample_point.proofs.laws.conditions_are_of_the_generic_leaf.Goals as goal

pub returns : goal.returns
returns g c = record { known = branch.conditions_known; hold = branch.conditions_hold g.D.Domain.operations }

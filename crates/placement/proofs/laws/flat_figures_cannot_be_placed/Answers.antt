use Rattle.placement.proofs.Flat as law
use Rattle.placement.proofs.laws.flat_figures_cannot_be_placed.Goals as goal

pub returns : goal.returns
returns c = law.flat_cannot_be_placed

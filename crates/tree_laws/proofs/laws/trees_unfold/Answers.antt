use Rattle.tree_laws.proofs.Growth.{trees-unfold}
use Rattle.tree_laws.proofs.laws.trees_unfold.Goals as goal

pub returns : goal.returns
returns c = trees-unfold

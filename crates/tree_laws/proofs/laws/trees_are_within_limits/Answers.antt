use Rattle.tree_laws.proofs.Ranged.{trees-within}
use Rattle.tree_laws.proofs.laws.trees_are_within_limits.Goals as goal

pub returns : goal.returns
returns c = trees-within

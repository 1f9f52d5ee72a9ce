use Rattle.tree_laws.proofs.Growth.{trees-valid}
use Rattle.tree_laws.proofs.laws.trees_of_problems_are_valid.Goals as goal

pub returns : goal.returns
returns c = trees-valid

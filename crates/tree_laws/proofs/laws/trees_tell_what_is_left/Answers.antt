use Rattle.tree_laws.proofs.Left.{trees-tell}
use Rattle.tree_laws.proofs.laws.trees_tell_what_is_left.Goals as goal

pub returns : goal.returns
returns c = trees-tell

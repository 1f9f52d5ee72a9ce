use Rattle.tree_laws.proofs.Paid.{reasons-are-right}
use Rattle.tree_laws.proofs.laws.reasons_are_right.Goals as goal

pub returns : goal.returns
returns c = reasons-are-right

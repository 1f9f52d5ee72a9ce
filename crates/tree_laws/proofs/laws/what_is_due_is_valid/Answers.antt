use Rattle.tree_laws.proofs.Due.{next-right}
use Rattle.tree_laws.proofs.laws.what_is_due_is_valid.Goals as goal

pub returns : goal.returns
returns c = next-right

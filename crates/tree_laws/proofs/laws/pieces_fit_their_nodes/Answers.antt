use Rattle.tree_laws.proofs.Worked.{work-follows}
use Rattle.tree_laws.proofs.laws.pieces_fit_their_nodes.Goals as goal

pub returns : goal.returns
returns c = work-follows

use Rattle.edge_num.proofs.Roots.{the-one}
use Rattle.edge_num.proofs.root.root_is_the_one.Goals as goal

pub returns : goal.returns
returns c = the-one

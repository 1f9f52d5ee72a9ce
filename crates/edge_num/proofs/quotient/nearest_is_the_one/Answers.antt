use Rattle.edge_num.proofs.Nearest.{the_one}
use Rattle.edge_num.proofs.quotient.nearest_is_the_one.Goals as goal

pub returns : goal.returns
returns c = the_one

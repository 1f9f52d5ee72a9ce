use Rattle.tree_laws.proofs.Paid.{fuel-pays, trees-are-paid}
use Rattle.tree_laws.proofs.laws.fuel_pays_for_trees.Goals as goal

pub returns : goal.returns
returns c = record { piece = fuel-pays; tree = trees-are-paid }

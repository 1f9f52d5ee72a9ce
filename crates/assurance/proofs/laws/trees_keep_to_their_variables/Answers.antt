use Rattle.assurance.proofs.Telling.{keeps_variables}
use Rattle.assurance.proofs.laws.trees_keep_to_their_variables.Goals as goal

pub returns : goal.returns
returns c = keeps_variables

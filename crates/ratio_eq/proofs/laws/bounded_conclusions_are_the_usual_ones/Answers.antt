use Rattle.ratio_eq.proofs.Limits as limits
use Rattle.ratio_eq.proofs.laws.bounded_conclusions_are_the_usual_ones.Goals as goal

pub returns : goal.returns
returns c = limits.bounded_usual

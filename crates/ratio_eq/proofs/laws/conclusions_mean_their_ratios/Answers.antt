use Rattle.ratio_eq.proofs.Meaning as meaning
use Rattle.ratio_eq.proofs.laws.conclusions_mean_their_ratios.Goals as goal

pub returns : goal.returns
returns g c = meaning.conclusions_mean g.D.Domain.laws

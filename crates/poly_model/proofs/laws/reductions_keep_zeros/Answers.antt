use Rattle.poly_model.proofs.Reductions.{reduction-zeros}
use Rattle.poly_model.proofs.laws.reductions_keep_zeros.Goals as goal

pub returns : goal.returns
returns g c = reduction-zeros g.D.Domain.laws

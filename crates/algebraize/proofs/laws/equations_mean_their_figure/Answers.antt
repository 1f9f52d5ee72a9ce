use Rattle.algebraize.proofs.Meaning.{equations_mean}
use Rattle.algebraize.proofs.laws.equations_mean_their_figure.Goals as goal

pub returns : goal.returns
returns g c = equations_mean g.D.Domain.laws

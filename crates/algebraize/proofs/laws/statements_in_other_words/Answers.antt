use Rattle.algebraize.proofs.OtherWords as words
use Rattle.algebraize.proofs.laws.statements_in_other_words.Goals as goal

pub returns : goal.returns
returns g c = words.statements g.D.Domain.laws.ring

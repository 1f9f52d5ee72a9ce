use Rattle.polynomials.proofs.Words.{in-order}
use Rattle.polynomials.proofs.laws.keys_are_in_order.Goals as goal

pub returns : goal.returns
returns c = in-order

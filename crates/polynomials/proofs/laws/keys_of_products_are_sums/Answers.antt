use Rattle.polynomials.proofs.Words.{of-products}
use Rattle.polynomials.proofs.laws.keys_of_products_are_sums.Goals as goal

pub returns : goal.returns
returns c = of-products

use Rattle.algebraize.proofs.Ratios as ratios
use Rattle.algebraize.proofs.laws.ratios_are_in_lowest_terms.Goals as goal

pub returns : goal.returns
returns c = record { value = ratios.value; positive = ratios.positive; lowest = ratios.lowest }

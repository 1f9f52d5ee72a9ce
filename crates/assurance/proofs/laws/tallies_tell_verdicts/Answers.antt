use Rattle.assurance.proofs.Tally.{tally_tells}
use Rattle.assurance.proofs.laws.tallies_tell_verdicts.Goals as goal

pub returns : goal.returns
returns c version problem fuel pieces h = tally_tells version problem fuel pieces h

use Rattle.first_refusal.proofs.Commands.{first-offends}
use Rattle.first_refusal.proofs.laws.first_offender_is_refused.Goals as goal

pub returns : goal.returns
returns c = first-offends

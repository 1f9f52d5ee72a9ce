use Rattle.trial_file.proofs.Accepting.{trials-are-accepted}
use Rattle.trial_file.proofs.laws.trial_files_are_accepted.Goals as goal

pub returns : goal.returns
returns c = trials-are-accepted

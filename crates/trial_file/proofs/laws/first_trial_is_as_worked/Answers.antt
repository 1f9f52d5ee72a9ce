use Rattle.std.proofs.Common.{refl}
use Rattle.std.specs.Fmt.{digits}
use Rattle.trial_file.specs.Trial.{steps_text, trial_text}
use Rattle.trial_file.proofs.laws.first_trial_is_as_worked.Goals as goal

pub returns-clause-first : goal.returns-clause-first
returns-clause-first c = refl

pub returns-clause-second : goal.returns-clause-second
returns-clause-second c = refl

pub returns-clause-third : goal.returns-clause-third
returns-clause-third c = refl

pub returns-clause-fourth : goal.returns-clause-fourth
returns-clause-fourth c = refl

pub returns-clause-file : goal.returns-clause-file
unfolding digits steps_text trial_text
returns-clause-file c = refl

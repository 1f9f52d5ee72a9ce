use Rattle.std.proofs.Common.{◌≡◌, ◌++◌, length}
use Rattle.trial_file.specs.Trial.{spaced}
use Rattle.trial_file.proofs.text.push_names.Given as goal

abbrev pub invariant-loop-name : goal.invariant-loop-name
invariant-loop-name l = l.text.items ++ spaced l.rest ≡ l.initial.text.items ++ spaced l.initial.names

abbrev pub decreases-loop-name : goal.decreases-loop-name
decreases-loop-name l = length l.rest

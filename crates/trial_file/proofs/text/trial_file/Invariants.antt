use Rattle.std.proofs.Common.{◌≡◌, ◌++◌, ℕ, ◌+◌}
use Rattle.trial_file.specs.Trial.{steps_text, trial_text}
use Rattle.trial_file.proofs.text.trial_file.Given as goal

-- The rest of the file is that of so many constructions.
abbrev pub invariant-loop-i : goal.invariant-loop-i
invariant-loop-i l =
    (n : ℕ) × (l.i + n ≡ l.i-end) × (l.text.items ++ steps_text n l.i l.draws.state ≡ trial_text l.number)

use Rattle.std.proofs.Common.{◌≡◌, ◌++◌, ◌∷◌, ◌≤◌, length, map}
use Rattle.poly_model.specs.declared.limits.TheConstants.{MOST_LETTERS}
use Rattle.proof_log.specs.Text.{letter_text}
use Rattle.proof_log.proofs.field.letters_of.Given as goal

abbrev pub invariant-loop-letter : goal.invariant-loop-letter
invariant-loop-letter l = record {
  few : length l.path ≤ MOST_LETTERS;
  text : l.text ≡ 46 ∷ (map letter_text l.path ++ l.rest);
}

abbrev pub decreases-loop-letter : goal.decreases-loop-letter
decreases-loop-letter l = length l.rest

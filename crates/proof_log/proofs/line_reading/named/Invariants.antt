use Rattle.std.proofs.Common.{◌≡◌, length, Some}
use Rattle.proof_log.specs.Text.{word_text}
use Rattle.proof_log.specs.declared.line.LineWord.{LineWord}
use Rattle.proof_log.proofs.Fields.{found}
use Rattle.proof_log.proofs.line_reading.named.Given as goal

abbrev pub invariant-loop-word : goal.invariant-loop-word
invariant-loop-word l = (word : LineWord) → l.text ≡ word_text word → found l.rest l.text ≡ Some word

abbrev pub decreases-loop-word : goal.decreases-loop-word
decreases-loop-word l = length l.rest

use Rattle.std.proofs.Common.{◌≡◌, ◌*◌, ◌<◌, length}
use Rattle.poly_text.specs.declared.pieces.TheConstants.{SHORT}
use Rattle.poly_text.specs.Reading.{number_from}
use Rattle.poly_text.proofs.pieces.read_start.Given as goal

abbrev pub invariant-loop-b : goal.invariant-loop-b
invariant-loop-b l = (l.value < 10 * SHORT) × (number_from 0 l.text ≡ number_from l.value l.rest)

abbrev pub decreases-loop-b : goal.decreases-loop-b
decreases-loop-b l = length l.rest

use Rattle.std.proofs.Common.{length}
use Rattle.poly_text.proofs.Numbers.{Capped}
use Rattle.poly_text.proofs.pieces.read_number.Given as goal

abbrev pub invariant-loop-b : goal.invariant-loop-b
invariant-loop-b l = Capped l.value l.rest l.text

abbrev pub decreases-loop-b : goal.decreases-loop-b
decreases-loop-b l = length l.rest

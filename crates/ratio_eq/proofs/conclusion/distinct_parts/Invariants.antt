use Rattle.std.proofs.Common.{◌≡◌, length, map}
use Rattle.poly_model.specs.Content.{primitive_part}
use Rattle.ratio_eq.specs.Fractions.{once_behind, parts_once}
use Rattle.ratio_eq.proofs.conclusion.distinct_parts.Given as goal

abbrev pub invariant-loop-p : goal.invariant-loop-p
invariant-loop-p l = once_behind l.seen.items (map primitive_part l.rest) ≡ parts_once l.fn.ps

abbrev pub decreases-loop-p : goal.decreases-loop-p
decreases-loop-p l = length l.rest

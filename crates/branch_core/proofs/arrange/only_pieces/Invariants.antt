use Rattle.std.proofs.Common.{◌≡◌, map}
use Rattle.branch_core.proofs.arrange.only_pieces.Given as goal

abbrev pub invariant-loop-path : goal.invariant-loop-path
invariant-loop-path g l = l.pieces.items ≡ map (λ d. d.1) l.yielded

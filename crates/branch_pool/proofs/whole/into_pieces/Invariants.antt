use Rattle.std.proofs.Common.{◌≡◌, map}
use Rattle.branch_pool.proofs.whole.into_pieces.Given as goal

abbrev pub invariant-loop-one : goal.invariant-loop-one
invariant-loop-one g l = l.pieces.items ≡ map (λ d. d.2) l.yielded

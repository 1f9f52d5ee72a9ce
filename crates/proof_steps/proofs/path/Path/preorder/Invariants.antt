use Rattle.std.proofs.Common.{◌≡◌, drop}
use Rattle.proof_steps.specs.Paths.{preorder_cmp}
use Rattle.proof_steps.proofs.path.Path.preorder.Given as goal

abbrev pub invariant-loop-i : goal.invariant-loop-i
invariant-loop-i l = preorder_cmp (drop l.i l.mine) (drop l.i l.theirs) ≡ preorder_cmp l.mine l.theirs
